-- Room for the new extract, and its parts. Assumes nothing.
use Rattle.std.specs.Prelude.{Result}
use Rattle.base.specs.declared.Refusal.{Refusal}
use mathlib.Core.Path.{◌≡◌, sym, ap, ◌∙◌}
use mathlib.Core.List.{List, ◌++◌}
use Prim.Native.Nat.{ℕ, ◌+◌, ◌*◌, ◌≤◌, ◌<◌}
use native.Mathlib.Omega.{arith}
use lib.ListN.{length}
use borrow.Author.Tests.{lt-leb, le-leb}
use Rattle.base.specs.Put.{put}
use Rattle.base.specs.Said.{answered, gives, refuses}
use Rattle.base.specs.All.{All}
use Rattle.record_entry.specs.declared.MBRPartitionEntry.{MBRPartitionEntry}
use Rattle.extract.specs.Extract.{sector_size_of, disk_sectors, records}
use Rattle.extract.specs.Disk.{Store}
use Rattle.extract.specs.Rules.{most_records}
use Rattle.extract_lay.specs.Layover.{header_bytes}
use Rattle.extract.proofs.header_out.Written.{three}
use Rattle.extract_lay.proofs.Parts.{length-header}
use Rattle.extract_lay.specs.declared.plan.Slot.{Slot}
use Rattle.extract_lay.specs.Plan.{pieces, slot_lba}
use Rattle.extract_lay.proofs.plan.Laws.{length-pieces, lbas-wide}
use Rattle.table.specs.declared.LogicalPartition.{LogicalPartition}
use Rattle.write_rules.specs.Write.{written_room}
use Rattle.write_rules.specs.Records.{laid_all, extract_over}
use Rattle.write_rules.specs.Answers.{Put}
use Rattle.write_rules.specs.Sources.{bytes_from, stores_of, slots_of, CodeLong, Writing}
use Rattle.write_rules.proofs.sources.Laws.{extract-parts, extract-count, extract-long}

-- room for the new extract
module _ (x : List ℕ) (n m : ℕ) (first : List ℕ) (ls : List LogicalPartition) (e : MBRPartitionEntry) (w : Writing x n m first) (c : All CodeLong ls) (l : List Slot) (p : l ≡ slots_of x ls) (k : ℕ) (q : length l ≡ k) (out : List ℕ) where
  abbrev ss : List Store
  ss = stores_of first e ls

  many : length (laid_all ss (records x)) ≡ k
  many = extract-count x n m first ls e w c ∙ ap length (sym p) ∙ q

  size : length (extract_over x ss) ≡ 24 + k * 516
  size = extract-long x n m first ls e w c ∙ ap (λ j. 24 + j * 516) (ap length (sym p) ∙ q)

  pub room-many : most_records < k → (r : Result ℕ Refusal) → answered r ≡ refuses 22 → Put r out out (written_room x ss (length out)) (extract_over x ss)
  unfolding written_room
  room-many h r s = record { says = s ∙ rw (many, lt-leb k most_records h); leaves = rw (many, lt-leb k most_records h) }

  pub room-short : k ≤ most_records → length out < 24 + k * 516 → (r : Result ℕ Refusal) → answered r ≡ refuses 19 → Put r out out (written_room x ss (length out)) (extract_over x ss)
  unfolding written_room
  room-short h o r s = record { says = s ∙ rw (many, le-leb k most_records h, size, lt-leb (24 + k * 516) (length out) o); leaves = rw (many, le-leb k most_records h, size, lt-leb (24 + k * 516) (length out) o) }

  pub room-fine : k ≤ most_records → 24 + k * 516 ≤ length out → (d₁ d₂ d₃ : List ℕ) (z d : ℕ) → z ≡ sector_size_of x → d ≡ disk_sectors x
      → d₁ ≡ put out 0 (header_bytes z d k) → d₂ ≡ put d₁ 24 (pieces slot_lba l) → d₃ ≡ put d₂ (24 + k * 4) (pieces (λ s. bytes_from x ss s.source) l)
      → (r : Result ℕ Refusal) → answered r ≡ gives (24 + k * 516) → Put r out d₃ (written_room x ss (length out)) (extract_over x ss)
  unfolding written_room
  room-fine h o d₁ d₂ d₃ z d ez ed e₁ e₂ e₃ r s =
      let a = header_bytes z d k in
      let b = pieces slot_lba l in
      let g = pieces (λ s. bytes_from x ss s.source) l in
      let lb : length b ≡ k * 4 = length-pieces slot_lba 4 l (lbas-wide l) ∙ ap (λ j. j * 4) q in
      let all : d₃ ≡ put out 0 (a ++ b ++ g) = three out d₁ d₂ d₃ 0 24 (k * 4) a b g (length-header z d k) lb (omega arith) e₁ e₂ e₃ in
      let parts : extract_over x ss ≡ header_bytes (sector_size_of x) (disk_sectors x) (length l) ++ pieces slot_lba l ++ g =
      extract-parts x n m first ls e w c
      ∙ ap (λ (j : List Slot). header_bytes (sector_size_of x) (disk_sectors x) (length j) ++ pieces slot_lba j ++ pieces (λ s. bytes_from x ss s.source) j) (sym p) in
      let same : a ++ b ++ g ≡ extract_over x ss =
      ap (λ j. header_bytes j d k ++ b ++ g) ez
      ∙ ap (λ j. header_bytes (sector_size_of x) j k ++ b ++ g) ed
      ∙ ap (λ j. header_bytes (sector_size_of x) (disk_sectors x) j ++ b ++ g) (sym q)
      ∙ sym parts in
      record {
        says = s ∙ ap gives (sym size) ∙ rw (many, le-leb k most_records h, size, le-leb (24 + k * 516) (length out) o);
        leaves = all ∙ ap (put out 0) same ∙ rw (many, le-leb k most_records h, size, le-leb (24 + k * 516) (length out) o);
      }
