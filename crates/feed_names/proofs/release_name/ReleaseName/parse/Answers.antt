use Rattle.std.proofs.Common.{to_z-of_z}
use Rattle.feed_names.proofs.NameLemmas.{ending_cut, name_cut}
use Rattle.feed_names.proofs.release_name.ReleaseName.parse.Goals as goal

pub returns-in_default-split_date-clause-refused :
    goal.returns-in_default-split_date-clause-refused
returns-in_default-split_date-clause-refused c =
    let cut = rw c.as_slice.ensures at c.in-Some.ensures.cases in
    (c.in-Some.front.now, ending_cut c.args.text.now c.in-Some.front.now cut.0 cut.1, c.in_default-split_date.ensures)

pub returns-then-not-is_package_name-clause-refused : goal.returns-then-not-is_package_name-clause-refused
returns-then-not-is_package_name-clause-refused c =
    let cut = rw c.as_slice.ensures at c.in-Some.ensures.cases in (
      c.in-Some.front.now,
      c.in-Some-split_date.package_name.now,
      c.in-Some-split_date.day,
      ending_cut c.args.text.now c.in-Some.front.now cut.0 cut.1,
      c.in-Some-split_date.ensures,
      λ package_name. let holds = c.is_package_name.ensures.1 package_name in cc,
    )

pub invariant_of-result : goal.invariant_of-result
invariant_of-result c =
    let cut = rw c.as_slice.ensures at c.in-Some.ensures.cases in
    let ends = ending_cut c.args.text.now c.in-Some.front.now cut.0 cut.1 in
    let dated = c.in-Some-split_date.ensures in
    rw (c.in-Ok.ensures.items, to_z-of_z (c.day_numbers_fit.ensures c.in-Some-split_date.day dated.date dated.is_date))
    (name_cut c.args.text.now c.in-Some.front.now c.in-Some-split_date.package_name.now c.in-Some-split_date.day ends dated (c.is_package_name.ensures.0 c.if-not-is_package_name.false))

pub returns-in-Ok-clause-named : goal.returns-in-Ok-clause-named
returns-in-Ok-clause-named c =
    let cut = rw c.as_slice.ensures at c.in-Some.ensures.cases in
    let ends = ending_cut c.args.text.now c.in-Some.front.now cut.0 cut.1 in
    let dated = c.in-Some-split_date.ensures in
    rw (c.in-Ok.ensures.items, to_z-of_z (c.day_numbers_fit.ensures c.in-Some-split_date.day dated.date dated.is_date))
    (name_cut c.args.text.now c.in-Some.front.now c.in-Some-split_date.package_name.now c.in-Some-split_date.day ends dated (c.is_package_name.ensures.0 c.if-not-is_package_name.false))

pub returns-in-Err-clause-refused : goal.returns-in-Err-clause-refused
returns-in-Err-clause-refused c =
    let cut = rw c.as_slice.ensures at c.in-Some.ensures.cases in (
      record { package_name = c.in-Some-split_date.package_name.now; day = c.in-Some-split_date.day },
      record {
        front = c.in-Some.front.now;
        ends = ending_cut c.args.text.now c.in-Some.front.now cut.0 cut.1;
        is_dated = c.in-Some-split_date.ensures;
        is_package_name = c.is_package_name.ensures.0 c.if-not-is_package_name.false;
      },
    )
