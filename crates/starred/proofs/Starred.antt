-- Every starred number holds: one computed test of the table. Assumes nothing.
use mathlib.Core.Path.{◌≡◌, refl}
use mathlib.Core.Bool.{true}
use Rattle.base.specs.All.{allb}
use Rattle.record_ebr.specs.Ebr.{no_kept, ebr_bytes}
use Rattle.record_mbr.specs.Mbr.{extended_of}
use Rattle.table.specs.Table.{slots, rounded}
use Rattle.chain.specs.Chain.{view, placed, follows, chain, logicals_of}
use Rattle.read_align.specs.Align.{used_starts, divides_all, largest_start, divisor_to, alignment}
use Rattle.read_table.specs.Read.{header_on, with_chain, read, table_of}
use Rattle.table_address.specs.Address.{complete, addressed}
use Rattle.table_push.specs.Push.{fresh, new_logical, round_checks, place_checks, end_checks, geometry_checks, push_checks}
use Rattle.sound.specs.Is.{pairsb, rowb}
use Rattle.sound.specs.Sound.{area_start, area_end, vacantb, end, zones, signedb, flagsb, addressesb, startsb, sizesb, on_diskb, all_apartb, one_extendedb, ownedb, logicals_usedb, logicals_plainb, logicals_sizedb, after_ebrb, endsb, first_atb, ascendb, links_sizedb, links_endb, links_coverb, sound_rules, soundb}
use Rattle.chain.specs.Links.{write}
use Rattle.table_free.specs.Sort.{sort, insert}
use Rattle.table_free.specs.Free.{free, primary_zones, logical_zones, ends, pairs, apart, kept}
use Rattle.table_place.specs.Place.{roomy}
use Rattle.careful_stores.specs.Order.{up_to, order_at, earlier, earlier_one, behind_at}
use Rattle.careful.specs.Stores.{last_logical, last_listed, push_stores}
use Rattle.careful.specs.Careful.{too_wide, ask_checks, space_checks, push_refusals, push_change, careful_push}
use Rattle.starred.specs.Disks.{disk_with, blank_at, plain_disk, ebr_k, K, asked, request, summary, pushed_on_k}
use Rattle.starred.specs.Starred.{rows, hold_each}

pub starred-hold : hold_each rows ≡ true
unfolding no_kept ebr_bytes extended_of slots view placed follows chain logicals_of used_starts divides_all largest_start divisor_to alignment header_on with_chain read table_of complete addressed rounded fresh new_logical round_checks place_checks end_checks geometry_checks push_checks allb pairsb rowb area_start area_end vacantb end zones signedb flagsb addressesb startsb sizesb on_diskb all_apartb one_extendedb ownedb logicals_usedb logicals_plainb logicals_sizedb after_ebrb endsb first_atb ascendb links_sizedb links_endb links_coverb sound_rules soundb write sort insert free primary_zones logical_zones ends pairs apart kept roomy last_logical last_listed up_to order_at earlier earlier_one behind_at push_stores too_wide ask_checks space_checks push_refusals push_change careful_push disk_with blank_at plain_disk ebr_k K asked request summary pushed_on_k
starred-hold = refl
