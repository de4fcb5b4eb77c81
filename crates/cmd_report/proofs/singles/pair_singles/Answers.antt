use Rattle.std.proofs.Common.{◌≡◌, ◌++◌, not, refl}
use Rattle.std.specs.List.{filter}
use Rattle.cmd_report.specs.Pairing.{IsPairing, is_single}
use Rattle.cmd_report.proofs.Alone.{single_pairs, sorted_filter}
use Rattle.cmd_report.proofs.singles.pair_singles.Goals as goal

pub merge-requires-clause-old : goal.merge-requires-clause-old
merge-requires-clause-old c =
    rw (c.deref-3.ensures.value, c.in_ok-of_old.ensures.singles, c.deref.ensures.value) (sorted_filter c.args.by _ c.sort.new.rows.items c.in_ok-sort.ensures.sorted)

pub merge-requires-clause-new : goal.merge-requires-clause-new
merge-requires-clause-new c =
    rw (c.deref-4.ensures.value, c.in_ok-of_new.ensures.singles, c.deref-2.ensures.value) (sorted_filter c.args.by _ c.sort-2.new.rows.items c.in_ok-sort-2.ensures.sorted)

pub returns : goal.returns
returns c =
    let old_singles : c.in_ok-of_old.of_old.singles.items ≡ filter (is_single c.args.by c.sort.new.rows.items) c.sort.new.rows.items =
    rw c.deref.ensures.value at c.in_ok-of_old.ensures.singles in
    let old_others : c.in_ok-of_old.of_old.others.items ≡ filter (λ row. not (is_single c.args.by c.sort.new.rows.items row)) c.sort.new.rows.items =
    rw c.deref.ensures.value at c.in_ok-of_old.ensures.others in
    let new_singles : c.in_ok-of_new.of_new.singles.items ≡ filter (is_single c.args.by c.sort-2.new.rows.items) c.sort-2.new.rows.items =
    rw c.deref-2.ensures.value at c.in_ok-of_new.ensures.singles in
    let new_others : c.in_ok-of_new.of_new.others.items ≡ filter (λ row. not (is_single c.args.by c.sort-2.new.rows.items row)) c.sort-2.new.rows.items =
    rw c.deref-2.ensures.value at c.in_ok-of_new.ensures.others in
    let old_left : c.append.new.self.items ≡ c.in_ok-pairing.pairing.old.items ++ c.in_ok-of_old.of_old.others.items = c.in_ok-append.ensures.items in
    let new_left : c.append-2.new.self.items ≡ c.in_ok-pairing.pairing.new.items ++ c.in_ok-of_new.of_new.others.items = c.in_ok-append-2.ensures.items in
    let pairs : IsPairing c.args.by c.in_ok-of_old.of_old.singles.items c.in_ok-of_new.of_new.singles.items c.in_ok-pairing.pairing =
    rw (c.deref-3.ensures.value, c.deref-4.ensures.value) at c.in_ok-pairing.ensures in
    single_pairs c.args.by c.args.old.items c.args.new.items c.sort.new.rows.items c.sort-2.new.rows.items c.in_ok-pairing.pairing _ c.sort.ensures.permutation
    c.sort-2.ensures.permutation (rw (old_singles, new_singles) at pairs) refl (rw old_others at old_left) (rw new_others at new_left)
