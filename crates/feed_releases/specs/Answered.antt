-- The answer of a feed to a query.
use Rattle.std.specs.Prelude.{◌≡◌, ℕ, List, Some, None, Result, Ok, Err}
use Rattle.feed_names.specs.ReleaseName.{Name}
use Rattle.feed_kbart.specs.Files.{holdings_of}
use Rattle.feed_answer.specs.QueryValue.{QueryValue}
use Rattle.feed_answer.specs.HitValue.{HitValue}
use Rattle.feed_answer.specs.Answers.{answer_of}
use Rattle.feed_model.specs.History.{History, IsFile, Reports}
use Rattle.feed_releases.specs.declared.feed.AnswerFault.{AnswerFault}
use Rattle.feed_releases.specs.declared.feed.AnswerFault.TheVariants.{NoRelease, Memory}

-- the package has an active release, whose complete file gives these hits; or it has none; or it has one and memory ran
-- out
abbrev pub IsAnswered : History → List ℕ → QueryValue → Result (List HitValue) AnswerFault → Type 0
IsAnswered h package_name query (Ok hits) = (n : Name) × (text : List ℕ) × Reports h package_name (Some n) × IsFile h n text × (hits ≡ answer_of (holdings_of text) query)
IsAnswered h package_name query (Err NoRelease) = Reports h package_name None
IsAnswered h package_name query (Err Memory) = (n : Name) × Reports h package_name (Some n)
