use Rattle.std.proofs.Common.{◌≡◌, ◌∷◌, ◌++◌, [], ◌∙◌, ap, rules, w64, to_z, of_z, FitsSigned, ℤ}
use Rattle.std.proofs.Math.Facts.{to_z-of_z}
use Rattle.feed_store_read.specs.Reading.{IsReleaseOf}
use Rattle.feed_store_read.specs.declared.releases.Releases.{Releases}
use Rattle.feed_store_read.proofs.More.{show_more}
use Rattle.feed_store_read.proofs.releases.take_release.Goals as goal

pub returns : goal.returns
returns c rows was =
    let id = c.in-Some.id in
    let is : IsReleaseOf c.args.row.now id c.in-Some.record = rw c.in-Some.is at c.in_ok-id.ensures in
    let fits : FitsSigned w64 id = search rules in
    let back : to_z w64 (of_z w64 id) ≡ id = to_z-of_z fits in
    let new : Releases = record { ids = c.push.new.self; records = c.push-2.new.self } in
    let pushed : c.push.new.self.items ≡ c.args.found.now.ids.items ++ id ∷ [] = c.in_ok-push.ensures.items ∙ ap (λ (n : ℤ). c.args.found.now.ids.items ++ n ∷ []) back in
    show_more rows c.args.row.now c.args.found.now new id c.in-Some.record is pushed c.in_ok-push-2.ensures.items was
