-- Histories that report the same, and in which each release is the same.
use Rattle.std.proofs.Common.{◌↔◌, ℕ, List, Option, Some, None, Result, Ok, Err}
use Rattle.feed_names.specs.ReleaseName.{Name}
use Rattle.feed_answer.specs.QueryValue.{QueryValue}
use Rattle.feed_answer.specs.HitValue.{HitValue}
use Rattle.feed_model.specs.History.{History, Reports}
use Rattle.feed_model.specs.Earlier.{IsSameRelease}
use Rattle.feed_releases.specs.Answered.{IsAnswered}
use Rattle.feed_releases.specs.declared.feed.AnswerFault.{AnswerFault}
use Rattle.feed_releases.specs.declared.feed.AnswerFault.TheVariants.{NoRelease, Memory}

-- have the same answers
pub answered_same : (h k : History) → ((package_name : List ℕ) (o : Option Name) → Reports h package_name o ↔ Reports k package_name o) → ((n : Name) → IsSameRelease h k n)
    → (package_name : List ℕ) (query : QueryValue)
    (answer : Result (List HitValue) AnswerFault) → IsAnswered h package_name query answer ↔ IsAnswered k package_name query answer
answered_same h k reports releases package_name query (Ok hits) = (
  λ is. (is.0, is.1, (reports package_name (Some is.0)).0 is.2, ((releases is.0).file is.1).0 is.3, is.4),
  λ is. (is.0, is.1, (reports package_name (Some is.0)).1 is.2, ((releases is.0).file is.1).1 is.3, is.4),
)
answered_same h k reports releases package_name query (Err NoRelease) = reports package_name None
answered_same h k reports releases package_name query (Err Memory) = (λ is. (is.0, (reports package_name (Some is.0)).0 is.1), λ is. (is.0, (reports package_name (Some is.0)).1 is.1))
