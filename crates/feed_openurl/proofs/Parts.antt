-- Reading a text in steps gives the same as reading it whole.
use Rattle.std.proofs.Common.{◌≡◌, ◌<◌, ◌≤◌, ◌+◌, ◌-◌, ◌==◌, ℕ, Bool, true, false, ◌&&◌, List, [], ◌∷◌}
use Rattle.std.proofs.Common.{◌++◌, length, take, drop, get_or, Option, Some, None, if◌then◌else◌, refl, sym, ap, ◌∙◌, append_assoc, arith}
use Rattle.std.specs.List.{cons_option}
use Rattle.std.proofs.lemmas.Bool.{lt-ltb}
use Rattle.std.proofs.lemmas.List.{append-nil, drop_more, length-drop, take_all}
use Rattle.feed_answer.specs.Pairs.{is_empty}
use Rattle.feed_openurl.specs.Dates.{joins, token_of, tokens_from}
use Rattle.feed_openurl.specs.Numbers.{first_number, is_word_byte, number_onto, numbers_after, onto, sign_onto, taken, unlabelled, words_from}
use Rattle.feed_identifiers.specs.declared.identifier.Identifier.{Identifier}
use Rattle.feed_openurl.specs.declared.tokens.Token.{Token}

-- the token of a run goes before the others
token_onto : (o : Option Token) (before rest : List Token) → before ++ cons_option o [] ++ rest ≡ before ++ cons_option o rest
token_onto None before rest = ap (λ l. l ++ rest) (append-nil before)
token_onto (Some token) before rest = append_assoc before (token ∷ []) rest

-- a byte that belongs to the run, and one that begins another
pub token_joined : (tokens : List Token) (run : List ℕ) (b : ℕ) → joins run b ≡ true → (rest : List ℕ)
    → tokens ++ tokens_from (run ++ b ∷ []) rest ≡ tokens ++ tokens_from run (b ∷ rest)
token_joined tokens run b is rest =
    ap (λ j. tokens ++ (if j then tokens_from (run ++ b ∷ []) rest else cons_option (token_of run) (tokens_from (b ∷ []) rest))) (sym is)

pub token_begun : (tokens : List Token) (run : List ℕ) (b : ℕ) → joins run b ≡ false → (rest : List ℕ)
    → tokens ++ cons_option (token_of run) [] ++ tokens_from (b ∷ []) rest ≡ tokens ++ tokens_from run (b ∷ rest)
token_begun tokens run b is rest =
    token_onto (token_of run) tokens (tokens_from (b ∷ []) rest)
    ∙ ap (λ j. tokens ++ (if j then tokens_from (run ++ b ∷ []) rest else cons_option (token_of run) (tokens_from (b ∷ []) rest))) (sym is)

pub token_joined_by : (tokens new : List Token) (run longer : List ℕ) (b : ℕ) → joins run b ≡ true → new ≡ tokens → longer ≡ run ++ b ∷ []
    → (rest : List ℕ) → new ++ tokens_from longer rest ≡ tokens ++ tokens_from run (b ∷ rest)
token_joined_by tokens new run longer b is same more rest = rw (same, more) (token_joined tokens run b is rest)

pub token_begun_by : (tokens new : List Token) (run none next : List ℕ) (b : ℕ) → joins run b ≡ false
    → new ≡ tokens ++ cons_option (token_of run) [] → none ≡ [] → next ≡ none ++ b ∷ []
    → (rest : List ℕ) → new ++ tokens_from next rest ≡ tokens ++ tokens_from run (b ∷ rest)
token_begun_by tokens new run none next b is more cleared first rest = rw (more, first, cleared) (token_begun tokens run b is rest)

-- the token of the last run
pub last_token : (tokens : List Token) (run bytes : List ℕ) (all : List Token) → bytes ≡ [] → tokens ++ tokens_from run bytes ≡ all
    → tokens ++ cons_option (token_of run) [] ≡ all
last_token tokens run bytes all none is = ap (λ bs. tokens ++ tokens_from run bs) (sym none) ∙ is

-- a word, and the sign that ends it, go before the others
sign_before : (b : ℕ) (rest : List (List ℕ)) → sign_onto b [] ++ rest ≡ sign_onto b rest
sign_before b rest = elim (b == 32) as (λ t. (if t then [] else (b ∷ []) ∷ []) ++ rest ≡ (if t then rest else (b ∷ []) ∷ rest)) [
  | true ↦ refl
  | false ↦ refl
]

word_before : (word : List ℕ) (words rest : List (List ℕ)) → onto word words ++ rest ≡ onto word (words ++ rest)
word_before word words rest = elim (is_empty word) as (λ t. (if t then words else word ∷ words) ++ rest ≡ (if t then words ++ rest else word ∷ (words ++ rest))) [
  | true ↦ refl
  | false ↦ refl
]

abbrev next_words : Bool → Bool → List ℕ → ℕ → List ℕ → List (List ℕ)
next_words is_skipped is_in begun b rest =
    if is_skipped then words_from [] rest
    else if is_in then words_from (begun ++ b ∷ []) rest
    else onto (unlabelled begun) (sign_onto b (words_from [] rest))

-- a hyphen that begins no word, a byte of the word, and one that ends it
pub word_skipped : (words : List (List ℕ)) (begun : List ℕ) (b : ℕ) → (is_empty begun && (b == 45)) ≡ true → (rest : List ℕ)
    → words ++ words_from begun rest ≡ words ++ words_from begun (b ∷ rest)
word_skipped words [] b is rest = ap (λ t. words ++ next_words t (is_word_byte b) [] b rest) (sym is)
word_skipped words (a ∷ begun) b is rest = absurd (cc)

pub word_joined : (words : List (List ℕ)) (begun : List ℕ) (b : ℕ) → (is_empty begun && (b == 45)) ≡ false → is_word_byte b ≡ true → (rest : List ℕ)
    → words ++ words_from (begun ++ b ∷ []) rest ≡ words ++ words_from begun (b ∷ rest)
word_joined words begun b none is rest =
    ap (λ t. words ++ next_words false t begun b rest) (sym is) ∙ ap (λ t. words ++ next_words t (is_word_byte b) begun b rest) (sym none)

pub word_ended : (words : List (List ℕ)) (begun : List ℕ) (b : ℕ) → (is_empty begun && (b == 45)) ≡ false → is_word_byte b ≡ false → (rest : List ℕ)
    → words ++ onto (unlabelled begun) (sign_onto b []) ++ words_from [] rest ≡ words ++ words_from begun (b ∷ rest)
word_ended words begun b none is rest =
    append_assoc words (onto (unlabelled begun) (sign_onto b [])) (words_from [] rest)
    ∙ ap (λ l. words ++ l) (word_before (unlabelled begun) (sign_onto b []) (words_from [] rest) ∙ ap (onto (unlabelled begun)) (sign_before b (words_from [] rest)))
    ∙ ap (λ t. words ++ next_words false t begun b rest) (sym is) ∙ ap (λ t. words ++ next_words t (is_word_byte b) begun b rest) (sym none)

pub word_joined_by : (words : List (List ℕ)) (begun longer : List ℕ) (b : ℕ) → (is_empty begun && (b == 45)) ≡ false → is_word_byte b ≡ true
    → longer ≡ begun ++ b ∷ [] → (rest : List ℕ) → words ++ words_from longer rest ≡ words ++ words_from begun (b ∷ rest)
word_joined_by words begun longer b none is more rest = rw more (word_joined words begun b none is rest)

pub word_ended_by : (words new : List (List ℕ)) (begun cleared : List ℕ) (b : ℕ) → (is_empty begun && (b == 45)) ≡ false → is_word_byte b ≡ false
    → new ≡ words ++ onto (unlabelled begun) (sign_onto b []) → cleared ≡ []
    → (rest : List ℕ) → new ++ words_from cleared rest ≡ words ++ words_from begun (b ∷ rest)
word_ended_by words new begun cleared b none is more empty rest = rw (more, empty) (word_ended words begun b none is rest)

-- the last word
pub last_word : (words : List (List ℕ)) (begun bytes : List ℕ) (all : List (List ℕ)) → bytes ≡ [] → words ++ words_from begun bytes ≡ all
    → words ++ onto (unlabelled begun) [] ≡ all
last_word words begun bytes all none is = ap (λ bs. words ++ words_from begun bs) (sym none) ∙ is

-- the number at the front goes before the others
number_before : (o : Option (Identifier × ℕ)) (before rest : List Identifier) → before ++ number_onto o [] ++ rest ≡ before ++ number_onto o rest
number_before None before rest = ap (λ l. l ++ rest) (append-nil before)
number_before (Some found) before rest = append_assoc before (found.0 ∷ []) rest

pub number_found : (numbers : List Identifier) (words : List (List ℕ)) (place : ℕ) → place < length words
    → numbers ++ number_onto (first_number (drop place words)) [] ++ numbers_after (taken (first_number (drop place words))) (drop (place + 1) words)
    ≡ numbers ++ numbers_after 0 (drop place words)
number_found numbers words place within =
    rw (drop_more words place [] within)
    (number_before (first_number (get_or words place [] ∷ drop (place + 1) words)) numbers
    (numbers_after (taken (first_number (get_or words place [] ∷ drop (place + 1) words))) (drop (place + 1) words)))

-- a word that belongs to a number already
pub word_passed : (words : List (List ℕ)) (place skipped : ℕ) → place < length words → 0 < skipped
    → numbers_after (skipped - 1) (drop (place + 1) words) ≡ numbers_after skipped (drop place words)
word_passed words place skipped within some =
    rw (drop_more words place [] within)
    (ap (λ t. if t then numbers_after (skipped - 1) (drop (place + 1) words) else number_onto (first_number (get_or words place [] ∷ drop (place + 1) words))
    (numbers_after (taken (first_number (get_or words place [] ∷ drop (place + 1) words))) (drop (place + 1) words))) (sym (lt-ltb 0 skipped some)))

-- all that is left of a list
rest_whole : (words : List (List ℕ)) (place : ℕ) → take (length words - place) (drop place words) ≡ drop place words
rest_whole words place = take_all (length words - place) (drop place words) (omega (arith, length-drop place words))

pub number_found_by : (numbers new : List Identifier) (words : List (List ℕ)) (place skipped more : ℕ) (all : List Identifier) → place < length words → skipped ≤ 0
    → new ≡ numbers ++ number_onto (first_number (take (length words - place) (drop place words))) []
    → more ≡ taken (first_number (take (length words - place) (drop place words)))
    → numbers ++ numbers_after skipped (drop place words) ≡ all → new ++ numbers_after more (drop (place + 1) words) ≡ all
number_found_by numbers new words place skipped more all within none pushed after is =
    let zero : 0 ≡ skipped = omega (arith, none) in
    let whole = rest_whole words place in
    ap (λ l. l ++ numbers_after more (drop (place + 1) words)) (pushed ∙ ap (λ ws. numbers ++ number_onto (first_number ws) []) whole)
    ∙ ap (λ n. numbers ++ number_onto (first_number (drop place words)) [] ++ numbers_after n (drop (place + 1) words)) (after ∙ ap (λ ws. taken (first_number ws)) whole)
    ∙ number_found numbers words place within
    ∙ ap (λ n. numbers ++ numbers_after n (drop place words)) zero
    ∙ is
