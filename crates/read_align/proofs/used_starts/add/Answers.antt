use Rattle.read_align.proofs.Laws.{starts-unused, starts-used}
use Prim.Native.Nat.{ℕ}
use mathlib.Core.List.{List, ◌++◌, append-nil}
use mathlib.Core.Path.{sym, ap, ◌∙◌}
use borrow.Author.Rules.{rules}
use Rattle.read_align.proofs.used_starts.add.Goals as goal

pub returns-then-e-ne0 : goal.returns-then-e-ne0
returns-then-e-ne0 c =
    let l : List ℕ = c.args.starts.now.items in
    record { grown = c.push.ensures.items ∙ ap (λ (t : List ℕ). l ++ t) (sym (starts-used c.args.e c.if-e-ne0.true)); long = search rules }

pub returns-else-e-ne0 : goal.returns-else-e-ne0
returns-else-e-ne0 c =
    let l : List ℕ = c.args.starts.now.items in
    record { grown = sym (append-nil l) ∙ ap (λ (t : List ℕ). l ++ t) (sym (starts-unused c.args.e c.if-e-ne0.false)); long = search rules }
