-- How the answers of releases are written one after another.
use Rattle.std.specs.Prelude.{ℕ, List, [], ◌∷◌, ◌++◌}
use Rattle.feed_answer.specs.Today.{TodayValue}
use Rattle.node_site.specs.Site as site_file
use Rattle.node_hits.specs.Searches.{SearchValue}
use Rattle.feed_releases.specs.Actives.{ActiveValue}
use Rattle.node_hits.specs.HitsText.{release_text}
use Rattle.node_hits.specs.Tallying.{RunningValue, with_release, tally_from}
use Rattle.node_hits.specs.declared.shares.Shares.{Shares}
use Rattle.node_resolver.specs.Answers.{release_in}

-- the answers of releases as text, behind those that made this tally
abbrev pub texts_from : Shares → site_file.SiteValue → TodayValue → SearchValue → RunningValue → List ActiveValue → List ℕ
texts_from shares site today search running [] = []
texts_from shares site today search running (active ∷ actives) =
    release_text (tally_from running) (tally_from (with_release running (release_in shares site today search active))) active.name
    ++ texts_from shares site today search (with_release running (release_in shares site today search active)) actives
