use Rattle.std.proofs.Common.{◌≡◌}
use Rattle.feed_names.specs.ReleaseName.{EndsInDate}
use Rattle.feed_names.proofs.NameLemmas.{one_name, one_front}
use Rattle.feed_names.proofs.laws.one_release_for_text.Goals as goal

pub returns : goal.returns
returns c text m n g h =
    let same : h.front ≡ g.front = one_front text h.front g.front h.ends g.ends in
    let dated : EndsInDate g.front n.package_name n.day = rw same at h.is_dated in
    one_name c.one_day_for_date.ensures g.front m n g.is_dated dated
