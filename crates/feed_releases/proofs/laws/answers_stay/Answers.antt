use Rattle.feed_model.specs.Earlier.{without_refused}
use Rattle.feed_releases.proofs.Earlier.{answered_same}
use Rattle.feed_releases.proofs.laws.answers_stay.Goals as goal

pub returns : goal.returns
returns c = λ h package_name query answer. answered_same h (without_refused h) (c.reports_stay.ensures h) (c.releases_stay.ensures h) package_name query answer
