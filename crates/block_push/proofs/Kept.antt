-- A logical partition that push makes keeps no code. Assumes nothing.
use mathlib.Core.Path.{◌≡◌, refl, ◌∙◌}
use mathlib.Core.Bool.{Bool, true, false}
use Rattle.base.specs.Pick.{pick}
use Rattle.record_ebr.specs.Ebr.{no_kept}
use Rattle.table.specs.declared.LogicalPartition.{LogicalPartition}
use Rattle.table_address.specs.declared.Geometry.{Geometry}
use Rattle.table_address.specs.Address.{complete, addressed}
use Rattle.table_push.specs.declared.request.Request.{Request}
use Rattle.table_push.specs.Push.{fresh, new_logical}

-- and has no code
kept_either : (b : Bool) (g : Geometry) (l : LogicalPartition) → (pick b (addressed g l) l).kept ≡ l.kept
unfolding addressed
kept_either true g l = refl
kept_either false g l = refl

fresh_kept : (later : Bool) (q : Request) → (fresh later q).kept ≡ no_kept
unfolding fresh
fresh_kept later q = refl

pub new-kept : (later : Bool) (q : Request) → (new_logical later q).kept ≡ no_kept
unfolding new_logical
new-kept later q = kept_either (complete q.geometry) q.geometry (fresh later q) ∙ fresh_kept later q
