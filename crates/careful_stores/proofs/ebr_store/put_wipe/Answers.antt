use lib.ListN.{length-replicate}
use Prim.Native.Nat.{ℕ}
use Rattle.careful_stores.proofs.ebr_store.Laws.{store-written}
use Rattle.careful_stores.specs.Stored.{wipe}
use Rattle.careful_stores.proofs.ebr_store.put_wipe.Goals as goal

pub returns : goal.returns
unfolding wipe
returns c =
    (store-written c.args.out.now _ _ 0 (wipe c.args.e) (length-replicate {A = ℕ} 512 0) c.requires c.put32.ensures c.copy_in.ensures).0
