use Rattle.std.proofs.Common.{◌≡◌, [], ◌∷◌, take, drop, to_z-of_z, sym}
use Rattle.std.specs.Cmp.Lexicographic.{same_text}
use Rattle.feed_names.proofs.NameLemmas.{date-drop, split_found}
use Rattle.feed_names.proofs.release_name.split_date.Goals as goal

pub returns-in-Some : goal.returns-in-Some
returns-in-Some c =
    let parts = c.split_at.ensures in
    let cut = rw (c.as_slice.ensures, parts.back) at c.in_ok-date.ensures.cases in
    let mark : take 1 (drop c.in_ok-at.at c.args.front.now) ≡ 95 ∷ [] = same_text _ _ (sym cut.0) in
    let found = split_found c.args.front.now c.in_ok-date.date.now c.in_ok-at.at c.in-Some.day c.in_ok-at.ensures.0 c.in_ok-at.ensures.1 mark cut.1 c.in-Some.ensures in
    rw (parts.front, to_z-of_z (c.day_numbers_fit.ensures c.in-Some.day found.date found.is_date)) found

pub returns-in-None : goal.returns-in-None
returns-in-None c package_name day h =
    let cut = rw (c.as_slice.ensures, c.split_at.ensures.back, c.in_ok-at.ensures.1, date-drop c.args.front.now package_name day h) at c.in_ok-date.ensures.cases in
    let date : c.in_ok-date.date.now ≡ h.date = cut.1 in
    c.in-None.ensures day (rw date h.is_date)
