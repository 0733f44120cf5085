-- A record that was laid over an extract fits the output.
use Rattle.std.proofs.Common.{◌≡◌, ℕ, ◌≤◌, List, length, sym, subst}
use borrow.Author.Tests.{leb-true}
use Rattle.base.specs.Said.{gives}
use Rattle.base.proofs.Checks.{answer-gives, none-fails, hold-right}
use Rattle.extract.specs.Extract.{extract_checks}
use Rattle.extract_lay.specs.Answers.{lay_says}
use Rattle.extract_lay.specs.Layover.{lay_checks, room_checks, new_extract}

pub laid-fits : (x : List ℕ) (a : ℕ) (r : List ℕ) (room m : ℕ) → gives m ≡ lay_says x a r room → m ≤ room
unfolding lay_says lay_checks room_checks
laid-fits x a r room m h =
    let said = answer-gives (lay_checks x a r room) (length (new_extract x a r)) m (sym h) in
    let all = hold-right (extract_checks x) _ (none-fails (lay_checks x a r room) said.0) in
    let P : ℕ → Type 0 = λ n. n ≤ room in
    subst P said.1 (leb-true _ _ all.1.1.1.0)
