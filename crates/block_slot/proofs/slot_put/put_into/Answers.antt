use mathlib.Core.Path.{ap, ◌∙◌}
use mathlib.Core.List.{List, [], ◌∷◌}
use Prim.Native.Nat.{ℕ}
use Rattle.base.specs.Put.{put}
use Rattle.block.specs.Block.{slot_part, slot_start, tag_start, slot_put}
use Rattle.block_slot.proofs.slot_put.put_into.Goals as goal

pub returns : goal.returns
unfolding slot_put
returns c =
    let o = ap (λ (n : ℕ). put c.args.b.now n (slot_part c.args.l)) c.slot_at.ensures in
    let d = put c.args.b.now (slot_start c.args.i) (slot_part c.args.l) in
    record {
      b_after = c.put8.ensures ∙ ap (λ (x : List ℕ). put x c.tag_at.result (c.tag_of-tag.result ∷ [])) (c.put_slot.ensures.0 ∙ o)
          ∙ ap (λ (n : ℕ). put d n (c.tag_of-tag.result ∷ [])) c.tag_at.ensures
          ∙ ap (λ (v : ℕ). put d (tag_start c.args.i) (v ∷ [])) c.tag_of-tag.ensures;
      l_len = c.put_slot.ensures.1;
    }
