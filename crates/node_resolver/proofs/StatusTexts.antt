-- The object of an active release parses to its value.
use Rattle.std.proofs.Common.{◌≤◌, ◌<◌, ◌^◌, ◌∙◌, ℕ, List, [], ◌∷◌, ◌++◌, append_assoc, ap, length, refl, codes, lit≤}
use Rattle.std.specs.Fmt.{decimal}
use Rattle.std.specs.List.{AllByRecursion}
use Rattle.std.proofs.lemmas.List.Elements.{recursion_from_All}
use Rattle.json.specs.Token.{Token}
use Rattle.json.specs.Text.{content}
use Rattle.json.specs.Lex.{Lexeme, token, comma, colon, lex, between, punctuate, fresh, after_value, after_comma, after_key}
use Rattle.json.proofs.Printed.Decimals.{IsNumber-decimal}
use Rattle.json.proofs.Printed.Numbers.{lex-number}
use Rattle.feed_kbart.specs.HoldingsValue.{HoldingsValue}
use Rattle.json.specs.Tree.{depth}
use Rattle.feed_releases.specs.Actives.{ActiveValue}
use Rattle.node_response.proofs.JsonTexts.{Lexes, lexes_then, IsText, AreOf, text_of_lexemes, list_read}
use Rattle.node_hits.specs.HitsJson.{release_members}
use Rattle.node_hits.proofs.HitTexts.{release_lexemes, lexes_release}
use Rattle.node_resolver.specs.Status.{IsCountable, active_object, active_value, counts_end, status_body}
use Rattle.node_resolver.specs.Laws.{StatusIsJson}

last_brace : Lexes (codes "}") (token Token.end_object ∷ [])
unfolding lex
last_brace = record { lexed = λ rest. refl }

rows_key : Lexes (codes ",\"rows\":") (comma ∷ token (Token.string (codes "rows")) ∷ colon ∷ [])
unfolding lex content
rows_key = record { lexed = λ rest. refl }

skipped_key : Lexes (codes ",\"skipped\":") (comma ∷ token (Token.string (codes "skipped")) ∷ colon ∷ [])
unfolding lex content
skipped_key = record { lexed = λ rest. refl }

-- a number, in front of a comma
before_skipped : (n : ℕ) (more : List ℕ) (ms : List Lexeme) → n < 2 ^ 64 → Lexes (codes ",\"skipped\":" ++ more) ms
    → Lexes (decimal n ++ (codes ",\"skipped\":" ++ more)) (token (Token.number (decimal n)) ∷ ms)
before_skipped n more ms small after = record {
  lexed = λ rest. ap (lex between) (append_assoc (decimal n) (codes ",\"skipped\":" ++ more) rest)
      ∙ lex-number (decimal n) ((codes ",\"skipped\":" ++ more) ++ rest) (IsNumber-decimal n small) refl
      ∙ ap (λ ls. token (Token.number (decimal n)) ∷ ls) (after.lexed rest);
}

-- a number, in front of a brace
before_brace : (n : ℕ) → n < 2 ^ 64 → Lexes (decimal n ++ (codes "}" ++ [])) (token (Token.number (decimal n)) ∷ token Token.end_object ∷ [])
before_brace n small = record {
  lexed = λ rest. ap (lex between) (append_assoc (decimal n) (codes "}" ++ []) rest)
      ∙ lex-number (decimal n) ((codes "}" ++ []) ++ rest) (IsNumber-decimal n small) refl
      ∙ ap (λ ls. token (Token.number (decimal n)) ∷ ls) (last_brace.lexed rest);
}

abbrev counts_lexemes : HoldingsValue → List Lexeme
counts_lexemes holdings =
    comma ∷ token (Token.string (codes "rows")) ∷ colon ∷ token (Token.number (decimal (length holdings.rows)))
    ∷ comma ∷ token (Token.string (codes "skipped")) ∷ colon ∷ token (Token.number (decimal (length holdings.aside))) ∷ token Token.end_object ∷ []

lexes_counts : (holdings : HoldingsValue) → length holdings.rows < 2 ^ 64 → length holdings.aside < 2 ^ 64 → Lexes (counts_end holdings) (counts_lexemes holdings)
unfolding counts_end
lexes_counts holdings rows aside = lexes_then (codes ",\"rows\":") _ _ _ rows_key
    (before_skipped (length holdings.rows) _ _ rows (lexes_then (codes ",\"skipped\":") _ _ _ skipped_key (before_brace (length holdings.aside) aside)))

abbrev lexemes : ActiveValue → List Lexeme
lexemes active = release_lexemes active.name ++ counts_lexemes active.holdings

lexes_active : (active : ActiveValue) → IsCountable active → Lexes (active_object active) (lexemes active)
unfolding active_object
lexes_active active small = lexes_then (release_members active.name) (counts_end active.holdings) (release_lexemes active.name) (counts_lexemes active.holdings)
    (lexes_release active.name) (lexes_counts active.holdings small.0 small.1)

active_is : (active : ActiveValue) → AreOf (lexemes active) (active_value active)
unfolding punctuate
active_is active fresh may more = refl
active_is active after_value may more = absurd (cc)
active_is active after_comma may more = refl
active_is active after_key may more = absurd (cc)

each_active : (actives : List ActiveValue) → AllByRecursion IsCountable actives → AllByRecursion (λ active. IsText (active_object active) (active_value active)) actives
each_active [] small = tt
each_active (active ∷ more) small = (text_of_lexemes (active_object active) (lexemes active) (active_value active) (lexes_active active small.0) (active_is active), each_active more small.1)

each_flat : (actives : List ActiveValue) → AllByRecursion (λ active. depth (active_value active) ≤ 1) actives
each_flat [] = tt
each_flat (active ∷ more) = (lit≤ tt, each_flat more)

pub status_read : StatusIsJson
unfolding status_body
status_read site actives small = list_read active_object active_value actives (each_active actives (recursion_from_All IsCountable actives small)) (each_flat actives)
