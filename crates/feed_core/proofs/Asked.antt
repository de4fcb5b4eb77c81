-- The answers of a feed, as a world shows them.
use Rattle.std.proofs.Common.{◌≡◌, ℕ, List, [], ◌++◌, Some, Ok, inl, ◌∙◌, ap, subst}
use Rattle.feed_names.specs.ReleaseName.{Name, text_of}
use Rattle.feed_kbart.specs.Files.{holdings_of}
use Rattle.feed_answer.specs.QueryValue.{QueryValue}
use Rattle.feed_answer.specs.HitValue.{HitValue}
use Rattle.feed_answer.specs.Queries.{query_of}
use Rattle.feed_answer.specs.Answers.{answer_of, answer_text}
use Rattle.feed_model.specs.History.{History, IsFile, Reports}
use Rattle.feed_world.specs.World.{Text, IsAsked, text_for, file_says}
use Rattle.feed_model.proofs.Reports.{reports_one}
use Rattle.feed_releases.specs.Answered.{IsAnswered}

-- the text of the hits of a whole file
said : (name : Name) (file items : List ℕ) (query : QueryValue) (hits : List HitValue) → hits ≡ answer_of (holdings_of file) query → items ≡ answer_text (text_of name) hits
    → Text items ≡ file_says name file (Ok query)
unfolding text_for
said name file items query hits found written = ap Text (written ∙ ap (answer_text (text_of name)) found)

pub asked_text : (h : History) (package_name text old items : List ℕ) (name : Name) (query : QueryValue) (hits : List HitValue) → Reports h package_name (Some name) → Ok query ≡ query_of text
    → IsAnswered h package_name query (Ok hits) → old ≡ [] → items ≡ old ++ answer_text (text_of name) hits → IsAsked h package_name text (Text items)
asked_text h package_name text old items name query hits reports read answered none written =
    let same : answered.0 ≡ name = (let e = reports_one h package_name (Some answered.0) (Some name) answered.2 reports in cc) in
    let file = answered.1 in (
      Some name,
      reports,
      inl (
        file,
        subst (λ (n : Name). IsFile h n file) same answered.3,
        rw (← read)
            (said name file items query hits answered.4 (written ∙ ap (λ xs. xs ++ answer_text (text_of name) hits) none)),
      ),
    )
