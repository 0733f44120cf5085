-- The test of each rule says just that rule, and the whole test says sound. Assumes nothing.
use mathlib.Core.Path.{◌≡◌, refl}
use mathlib.Core.Logic.{inl, inr}
use Rattle.std.specs.Prelude.{Option, None, Some}
use mathlib.Core.Bool.{Bool, true, false}
use mathlib.Core.List.{List, [], ◌∷◌}
use Prim.Native.Nat.{ℕ, ◌+◌, ◌≤◌}
use lib.Dec.{leb, eqb}
use lib.ListN.{get_or}
use Rattle.base.specs.Pick.{pick}
use Rattle.base.specs.Checks.{Check, checked, AllHold}
use Rattle.record_chs.specs.declared.CHS.{CHS}
use Rattle.record_entry.specs.declared.MBRPartitionEntry.{MBRPartitionEntry}
use Rattle.record_entry.specs.Entry.{flag_ok, used, extended, end_of}
use Rattle.table.specs.declared.LogicalPartition.{LogicalPartition}
use Rattle.table.specs.Table.{parts}
use Rattle.chain.specs.Facts.{at, start, Before}
use Rattle.sound.specs.Is.{Is, later}
use Rattle.sound.specs.Sound.{Contents, primaries_of, extended_entry, area_start, area_end, end, zones, bound, Signed, signedb, Flagged, Flags, flagsb, Within, withinb, IfThere, if_thereb, EntryChs, entry_chsb, LogicalChs, logical_chsb, Addresses, addressesb, Starts, startsb, Sizes, sizesb, OnDisk, on_diskb, Apart, apartb, AllApart, all_apartb, NotBoth, not_bothb, OneExtended, one_extendedb, Owned, ownedb, LogicalsUsed, logicals_usedb, LogicalsPlain, logicals_plainb, LogicalsSized, logicals_sizedb, AfterEbr, after_ebrb, Ends, endsb, FirstAt, first_atb, Ascend, beforeb, ascendb, OfLink, of_linkb, LinksSized, links_sizedb, LinksEnd, links_endb, LinksCover, links_coverb, Sound, sound_rules, soundb}
use Rattle.sound.proofs.Is.{is_lt, is_le, is_eq, is_true, is-unit, is_never, is-not, is-and, is-or, is-if, is-as, is_all, is-pairs, is_row}

pub is-flag : (e : MBRPartitionEntry) → Is (Flagged e) (flag_ok e)
is-flag e = go (eqb e.boot 0) (eqb e.boot 128) (is_eq e.boot 0) (is_eq e.boot 128)
  where
    go : (a b : Bool) → Is (e.boot ≡ 0) a → Is (e.boot ≡ 128) b → Is (Flagged e) (pick a true (pick b true false))
    go true b k j = record { to = λ h. inl (k.to refl); from = λ h. refl }
    go false true k j = record { to = λ h. inr (j.to refl); from = λ h. refl }
    go false false k j = is-or (e.boot ≡ 0) (e.boot ≡ 128) false false k j

is_within : (c : CHS) → Is (Within c) (withinb c)
is_within c = is-and _ _ _ _ (is_le c.cylinder 1023) (is_le c.sector 63)

is-there : (m : Option CHS) → Is (IfThere m) (if_thereb m)
is-there None = is-unit
is-there (Some c) = is_within c

pub is-entry-chs : (e : MBRPartitionEntry) → Is (EntryChs e) (entry_chsb e)
is-entry-chs e = is-and _ _ _ _ (is_within e.first_chs) (is_within e.last_chs)

pub is-logical-chs : (l : LogicalPartition) → Is (LogicalChs l) (logical_chsb l)
is-logical-chs l = is-and _ _ _ _ (is-entry-chs l.partition) (is-and _ _ _ _ (is_within l.ebr_first_chs) (is-there l.ebr_last_chs))

pub is-apart : (e f : MBRPartitionEntry) → Is (Apart e f) (apartb e f)
is-apart e f =
    is-if _ _ _ _ (is_true (used e.sys))
    (is-if _ _ _ _ (is_true (used f.sys)) (is-or _ _ _ _ (is_le (end_of e) f.starting_lba) (is_le (end_of f) e.starting_lba)))

pub is-not-both : (e f : MBRPartitionEntry) → Is (NotBoth e f) (not_bothb e f)
is-not-both e f = is-if _ _ _ _ (is_true (extended e.sys)) (is-not _ _ (is_true (extended f.sys)))

is-owned : (o : Option MBRPartitionEntry) (ls : List LogicalPartition) → Is (Owned o ls) (ownedb o ls)
unfolding ownedb
is-owned None [] = is-unit
is-owned None (l ∷ ls) = is_never
is-owned (Some e) ls = is-unit

is-first : (X : ℕ) (ls : List LogicalPartition) → Is (FirstAt X ls) (first_atb X ls)
unfolding first_atb
is-first X [] = is-unit
is-first X (l ∷ ls) = is_eq (at l) X

is-before : (l : LogicalPartition) (n : Option LogicalPartition) → Is (Before l n) (beforeb l n)
is-before l None = is-unit
is-before l (Some m) = is_lt (at l) (at m)

pub is-link : (P : ℕ → Type 0) (p : ℕ → Bool) (Q : Type 0) (b : Bool) → ((n : ℕ) → Is (P n) (p n)) → Is Q b → (m : Option ℕ) → Is (OfLink P Q m) (of_linkb p b m)
is-link P p Q b k j None = j
is-link P p Q b k j (Some n) = k n

module _ (t : Contents) where
  pub is_signed : Is (Signed t) (signedb t)
  unfolding signedb
  is_signed =
      is-as _ (Signed t) (signedb t) (λ h. (h.0, h.1.0)) (λ h. (h.0, (h.1, tt)))
      (is-and _ _ _ _ (is_eq (get_or t.header.boot_signature 0 0) 0x55) (is-and _ _ _ _ (is_eq (get_or t.header.boot_signature 1 0) 0xAA) is-unit))

  pub is-flags : Is (Flags t) (flagsb t)
  unfolding flagsb
  is-flags = is-and _ _ _ _ (is_all Flagged flag_ok is-flag (primaries_of t)) (is_all Flagged flag_ok is-flag (parts t.logicals))

  pub is-addresses : Is (Addresses t) (addressesb t)
  unfolding addressesb
  is-addresses = is-and _ _ _ _ (is_all EntryChs entry_chsb is-entry-chs (primaries_of t)) (is_all LogicalChs logical_chsb is-logical-chs t.logicals)

  pub is-starts : Is (Starts t) (startsb t)
  unfolding startsb
  is-starts = is_all _ _ (λ e. is-if _ _ _ _ (is_true (used e.sys)) (is_le 1 e.starting_lba)) (primaries_of t)

  pub is-sizes : Is (Sizes t) (sizesb t)
  unfolding sizesb
  is-sizes = is_all _ _ (λ e. is-if _ _ _ _ (is_true (used e.sys)) (is_le 1 e.sectors)) (primaries_of t)

  pub is-on-disk : Is (OnDisk t) (on_diskb t)
  unfolding on_diskb
  is-on-disk = is_all _ _ (λ e. is-if _ _ _ _ (is_true (used e.sys)) (is_le (end_of e) t.size)) (primaries_of t)

  pub is-all-apart : Is (AllApart t) (all_apartb t)
  unfolding all_apartb
  is-all-apart = is-pairs Apart apartb is-apart (primaries_of t)

  pub is_one : Is (OneExtended t) (one_extendedb t)
  unfolding one_extendedb
  is_one = is-pairs NotBoth not_bothb is-not-both (primaries_of t)

  pub is-used : Is (LogicalsUsed t) (logicals_usedb t)
  unfolding logicals_usedb
  is-used = is_all _ _ (λ l. is_true (used l.partition.sys)) (zones t.logicals)

  pub is_plain : Is (LogicalsPlain t) (logicals_plainb t)
  unfolding logicals_plainb
  is_plain = is_all _ _ (λ l. is-not _ _ (is_true (extended l.partition.sys))) t.logicals

  pub is-sized : Is (LogicalsSized t) (logicals_sizedb t)
  unfolding logicals_sizedb
  is-sized = is_all _ _ (λ l. is_le 1 l.partition.sectors) (zones t.logicals)

  pub is-after : Is (AfterEbr t) (after_ebrb t)
  unfolding after_ebrb
  is-after = is_all _ _ (λ l. is_lt (at l) (start l)) (zones t.logicals)

  pub is-ends : Is (Ends t) (endsb t)
  unfolding endsb
  is-ends = is_row _ _ (λ l n. is_le (end l) (bound (area_end (extended_entry t)) n)) t.logicals None

  pub is-ascend : Is (Ascend t) (ascendb t)
  unfolding ascendb
  is-ascend = is_row Before beforeb is-before t.logicals None

  pub is-links-sized : Is (LinksSized t) (links_sizedb t)
  unfolding links_sizedb
  is-links-sized = is_all _ _ (λ l. is-link (λ n. 1 ≤ n) (λ n. leb 1 n) ⊥ false (λ n. is_le 1 n) is_never l.ebr_sectors) (later t.logicals)

  pub is-links-end : Is (LinksEnd t) (links_endb t)
  unfolding links_endb
  is-links-end = is_all _ _ (λ l. is-link _ _ _ _ (λ n. is_le (at l + n) (area_end (extended_entry t))) is-unit l.ebr_sectors) (later t.logicals)

  pub is-links-cover : Is (LinksCover t) (links_coverb t)
  unfolding links_coverb
  is-links-cover = is_all _ _ (λ l. is-link _ _ _ _ (λ n. is_le (end l) (at l + n)) is-unit l.ebr_sectors) (later t.logicals)

-- all rules hold exactly when the test says so
hold-test : (cs : List Check) → Is (AllHold cs) (checked cs (λ k. false) true)
hold-test [] = is-unit
hold-test (c ∷ cs) = go c.holds (hold-test cs)
  where
    go : (b : Bool) → Is (AllHold cs) (checked cs (λ k. false) true) → Is ((b ≡ true) × AllHold cs) (pick b (checked cs (λ k. false) true) false)
    go true k = record { to = λ h. (refl, k.to h); from = λ h. k.from h.1 }
    go false k = is-and _ _ _ _ (is_true false) k

module _ (t : Contents) where
  pub rules→sound : AllHold (sound_rules t) → Sound t
  unfolding sound_rules
  rules→sound (a, (b, (c, (d, (e, (f, (g, (h, (i, (j, (k, (l, (m, (n, (o, (p, (q, (r, (s, u))))))))))))))))))) = record {
    signed = (is_signed t).to a;
    flags = (is-flags t).to b;
    addresses = (is-addresses t).to c;
    starts = (is-starts t).to d;
    sizes = (is-sizes t).to e;
    on-disk = (is-on-disk t).to f;
    apart = (is-all-apart t).to g;
    one = (is_one t).to h;
    owned = (is-owned (extended_entry t) t.logicals).to i;
    used = (is-used t).to j;
    plain = (is_plain t).to k;
    sized = (is-sized t).to l;
    behind = (is-after t).to m;
    ends = (is-ends t).to n;
    first = (is-first (area_start (extended_entry t)) t.logicals).to o;
    ascend = (is-ascend t).to p;
    link-sized = (is-links-sized t).to q;
    link-ends = (is-links-end t).to r;
    link-covers = (is-links-cover t).to s;
  }

  pub sound→rules : Sound t → AllHold (sound_rules t)
  unfolding sound_rules
  sound→rules s = ((is_signed t).from s.signed, ((is-flags t).from s.flags, ((is-addresses t).from s.addresses, ((is-starts t).from s.starts, ((is-sizes t).from s.sizes, ((is-on-disk t).from s.on-disk, ((is-all-apart t).from s.apart, ((is_one t).from s.one, ((is-owned (extended_entry t) t.logicals).from s.owned, ((is-used t).from s.used, ((is_plain t).from s.plain, ((is-sized t).from s.sized, ((is-after t).from s.behind, ((is-ends t).from s.ends, ((is-first (area_start (extended_entry t)) t.logicals).from s.first, ((is-ascend t).from s.ascend, ((is-links-sized t).from s.link-sized, ((is-links-end t).from s.link-ends, ((is-links-cover t).from s.link-covers, tt)))))))))))))))))))

  pub is-sound : Is (Sound t) (soundb t)
  unfolding soundb
  is-sound = is-as _ (Sound t) (soundb t) rules→sound sound→rules (hold-test (sound_rules t))
