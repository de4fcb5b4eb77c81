use Rattle.std.proofs.Common.{rules, subst, sym}
use Rattle.std.proofs.lemmas.Cmp.{on_total}
use Rattle.std.proofs.lemmas.Fn.{always_returns_same}
use Rattle.feed_names.specs.ReleaseName.{Name}
use Rattle.feed_model.specs.Change.{comes_before}
use Rattle.feed_keep.specs.declared.record.Record.{Record}
use Rattle.feed_keep.specs.CheckOrder.{AreNamesAscending}
use Rattle.feed_keep.proofs.Ascending.{name_cmp, name_total, names_shown}
use Rattle.feed_keep.proofs.Strict.{answered_strict, strict_map, strict_unmap}
use Rattle.feed_keep.proofs.record_checks.are_names_ascending.Goals as goal

pub returns : goal.returns
returns c =
    let rs = c.args.records.now in
    let name : Record → Name = λ r. r.name in
    let looked = c.is_sorted_by.ensures.cases (λ x y. comes_before x.name y.name) (always_returns_same _ _ _ (λ a r q k. search rules)) in
    let both = answered_strict (λ x y. name_cmp (name x) (name y)) (on_total name name_total) rs c.is_sorted_by.result looked in
    (λ yes. subst AreNamesAscending (sym (names_shown rs)) (strict_map name name_cmp rs (both.0 yes)), λ up. both.1 (strict_unmap name name_cmp rs (subst AreNamesAscending (names_shown rs) up)))
