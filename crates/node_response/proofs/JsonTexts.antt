-- Strings and lists of JSON parse to the values that they state.
use Rattle.std.proofs.Common.{◌≡◌, ◌<◌, ◌≤◌, ℕ, zero, suc, ◌+◌, ◌-◌, List, [], ◌∷◌, ◌++◌, true, false, Some, refl, sym, ap, ◌∙◌, inl, inr, subst, arith, append_assoc, codes, map}
use Rattle.std.specs.Prelude.{◌==◌, nat_lt, option_and_then, cond, Bool}
use Rattle.std.specs.List.{flat_map, AllByRecursion}
use Rattle.std.proofs.lemmas.Bool.{cases_Bool, cases_lt, eqb-true, ne_eqb}
use Rattle.std.proofs.lemmas.List.{append-nil}
use lib.Utf8.{encode}
use borrow.Author.Tests.{le-ltb}
use Rattle.json.specs.Token.{Token}
use Rattle.json.specs.Text.{content, plain, prepend, code_unit, short_escape}
use Rattle.json.specs.Word.{is_operator, is_space}
use Rattle.json.specs.Lex.{Lexeme, token, colon, Mode, lex, lex_byte, between, in_string, operator, space, other, string_token}
use Rattle.json.specs.Lex.{punctuate, Place, fresh, after_value, after_comma, after_key, may_begin, tokens}
use Rattle.json.specs.Json.{Json, string, array, object, member, no_members, items, if_last, max_depth, document}
use Rattle.json.specs.Json as json
use Rattle.json.specs.Value.{items_of}
use Rattle.json.specs.Tree.{json_tokens, items_tokens, depth, items_depth}
use Rattle.json.proofs.Printed.Trees.{value-json_tokens}
use Rattle.node_request.specs.declared.representation.Representation.TheVariants as representation
use Rattle.node_response.specs.JsonStrings.{json_byte, json_string}
use Rattle.node_response.specs.JsonLists.{items_from, json_list}
use Rattle.node_response.specs.Pages.{fault_body}

-- ---- strings

-- a byte is read back, and the lexer passes over it
record Passes (b : ℕ) : Type 0 where
  read : (rest : List ℕ) → content plain (json_byte b ++ rest) ≡ prepend (b ∷ []) (content plain rest)
  lexed : (rest : List ℕ) → lex in_string (json_byte b ++ rest) ≡ lex in_string rest

-- each byte below 16
low : (n : ℕ) → n < 16 → Passes n
unfolding content lex code_unit short_escape encode
low zero small = record { read = λ rest. refl; lexed = λ rest. refl }
low (suc zero) small = record { read = λ rest. refl; lexed = λ rest. refl }
low (suc (suc zero)) small = record { read = λ rest. refl; lexed = λ rest. refl }
low (suc (suc (suc zero))) small = record { read = λ rest. refl; lexed = λ rest. refl }
low (suc (suc (suc (suc zero)))) small = record { read = λ rest. refl; lexed = λ rest. refl }
low (suc (suc (suc (suc (suc zero))))) small = record { read = λ rest. refl; lexed = λ rest. refl }
low (suc (suc (suc (suc (suc (suc zero)))))) small = record { read = λ rest. refl; lexed = λ rest. refl }
low (suc (suc (suc (suc (suc (suc (suc zero))))))) small = record { read = λ rest. refl; lexed = λ rest. refl }
low (suc (suc (suc (suc (suc (suc (suc (suc zero)))))))) small = record { read = λ rest. refl; lexed = λ rest. refl }
low (suc (suc (suc (suc (suc (suc (suc (suc (suc zero))))))))) small = record { read = λ rest. refl; lexed = λ rest. refl }
low (suc (suc (suc (suc (suc (suc (suc (suc (suc (suc zero)))))))))) small = record { read = λ rest. refl; lexed = λ rest. refl }
low (suc (suc (suc (suc (suc (suc (suc (suc (suc (suc (suc zero))))))))))) small = record { read = λ rest. refl; lexed = λ rest. refl }
low (suc (suc (suc (suc (suc (suc (suc (suc (suc (suc (suc (suc zero)))))))))))) small = record { read = λ rest. refl; lexed = λ rest. refl }
low (suc (suc (suc (suc (suc (suc (suc (suc (suc (suc (suc (suc (suc zero))))))))))))) small = record { read = λ rest. refl; lexed = λ rest. refl }
low (suc (suc (suc (suc (suc (suc (suc (suc (suc (suc (suc (suc (suc (suc zero)))))))))))))) small = record { read = λ rest. refl; lexed = λ rest. refl }
low (suc (suc (suc (suc (suc (suc (suc (suc (suc (suc (suc (suc (suc (suc (suc zero))))))))))))))) small = record { read = λ rest. refl; lexed = λ rest. refl }
low (suc (suc (suc (suc (suc (suc (suc (suc (suc (suc (suc (suc (suc (suc (suc (suc n)))))))))))))))) small = absurd (omega arith)

-- and each from 16 to 31
high : (n : ℕ) → n < 16 → Passes (16 + n)
unfolding content lex code_unit short_escape encode
high zero small = record { read = λ rest. refl; lexed = λ rest. refl }
high (suc zero) small = record { read = λ rest. refl; lexed = λ rest. refl }
high (suc (suc zero)) small = record { read = λ rest. refl; lexed = λ rest. refl }
high (suc (suc (suc zero))) small = record { read = λ rest. refl; lexed = λ rest. refl }
high (suc (suc (suc (suc zero)))) small = record { read = λ rest. refl; lexed = λ rest. refl }
high (suc (suc (suc (suc (suc zero))))) small = record { read = λ rest. refl; lexed = λ rest. refl }
high (suc (suc (suc (suc (suc (suc zero)))))) small = record { read = λ rest. refl; lexed = λ rest. refl }
high (suc (suc (suc (suc (suc (suc (suc zero))))))) small = record { read = λ rest. refl; lexed = λ rest. refl }
high (suc (suc (suc (suc (suc (suc (suc (suc zero)))))))) small = record { read = λ rest. refl; lexed = λ rest. refl }
high (suc (suc (suc (suc (suc (suc (suc (suc (suc zero))))))))) small = record { read = λ rest. refl; lexed = λ rest. refl }
high (suc (suc (suc (suc (suc (suc (suc (suc (suc (suc zero)))))))))) small = record { read = λ rest. refl; lexed = λ rest. refl }
high (suc (suc (suc (suc (suc (suc (suc (suc (suc (suc (suc zero))))))))))) small = record { read = λ rest. refl; lexed = λ rest. refl }
high (suc (suc (suc (suc (suc (suc (suc (suc (suc (suc (suc (suc zero)))))))))))) small = record { read = λ rest. refl; lexed = λ rest. refl }
high (suc (suc (suc (suc (suc (suc (suc (suc (suc (suc (suc (suc (suc zero))))))))))))) small = record { read = λ rest. refl; lexed = λ rest. refl }
high (suc (suc (suc (suc (suc (suc (suc (suc (suc (suc (suc (suc (suc (suc zero)))))))))))))) small = record { read = λ rest. refl; lexed = λ rest. refl }
high (suc (suc (suc (suc (suc (suc (suc (suc (suc (suc (suc (suc (suc (suc (suc zero))))))))))))))) small = record { read = λ rest. refl; lexed = λ rest. refl }
high (suc (suc (suc (suc (suc (suc (suc (suc (suc (suc (suc (suc (suc (suc (suc (suc n)))))))))))))))) small = absurd (omega arith)

quote_passes : Passes 34
unfolding content lex short_escape
quote_passes = record { read = λ rest. refl; lexed = λ rest. refl }

solidus_passes : Passes 92
unfolding content lex short_escape
solidus_passes = record { read = λ rest. refl; lexed = λ rest. refl }

small_passes : (b : ℕ) → b < 32 → Passes b
small_passes b small = elim (cases_lt b 16) [
  | inl below ↦ low b below
  | inr above ↦ let same : 16 + (b - 16) ≡ b = omega arith in subst Passes same (high (b - 16) (omega arith))
]

stays_inside : (o s : Bool) (b : ℕ) (rest : List ℕ) (k : Mode → List Lexeme) → lex_byte in_string (cond o operator (cond s space other)) b rest k ≡ k in_string
stays_inside true s b rest k = refl
stays_inside false true b rest k = refl
stays_inside false false b rest k = refl

plain_read : (b : ℕ) (rest : List ℕ) → (b == 34) ≡ false → (b == 92) ≡ false → nat_lt b 32 ≡ false → content plain (b ∷ rest) ≡ prepend (b ∷ []) (content plain rest)
unfolding content
plain_read b rest mark solidus control = rw (mark, solidus, control) refl

plain_passed : (b : ℕ) (rest : List ℕ) → (b == 34) ≡ false → (b == 92) ≡ false → lex in_string (b ∷ rest) ≡ lex in_string rest
unfolding lex
plain_passed b rest mark solidus = rw (mark, solidus) (stays_inside (is_operator b) (is_space b) b rest (λ m. lex m rest))

plain_passes : (b : ℕ) → (b == 34) ≡ false → (b == 92) ≡ false → nat_lt b 32 ≡ false → Passes b
plain_passes b mark solidus control =
    let same : json_byte b ≡ b ∷ [] = rw (mark, solidus, control) refl in
    record {
      read = λ rest. ap (λ t. content plain (t ++ rest)) same ∙ plain_read b rest mark solidus control;
      lexed = λ rest. ap (λ t. lex in_string (t ++ rest)) same ∙ plain_passed b rest mark solidus;
    }

passes : (b : ℕ) → Passes b
passes b = elim (cases_Bool (b == 34)) [
  | inl e ↦ subst Passes (sym (eqb-true b 34 e)) quote_passes
  | inr mark ↦ elim (cases_Bool (b == 92)) [
    | inl e ↦ subst Passes (sym (eqb-true b 92 e)) solidus_passes
    | inr solidus ↦ elim (cases_lt b 32) [
      | inl below ↦ small_passes b below
      | inr above ↦ plain_passes b mark solidus (le-ltb b 32 above)
    ]
  ]
]

string_content : (text rest : List ℕ) → content plain (flat_map json_byte text ++ 34 ∷ rest) ≡ Some text
unfolding content
string_content [] rest = refl
string_content (b ∷ text) rest =
    ap (content plain) (append_assoc (json_byte b) (flat_map json_byte text) (34 ∷ rest)) ∙ (passes b).read (flat_map json_byte text ++ 34 ∷ rest)
    ∙ ap (prepend (b ∷ [])) (string_content text rest)

string_passed : (text rest : List ℕ) → lex in_string (flat_map json_byte text ++ 34 ∷ rest) ≡ lex between rest
unfolding lex
string_passed [] rest = refl
string_passed (b ∷ text) rest =
    ap (lex in_string) (append_assoc (json_byte b) (flat_map json_byte text) (34 ∷ rest)) ∙ (passes b).lexed (flat_map json_byte text ++ 34 ∷ rest) ∙ string_passed text rest

-- ---- parts of a text

-- whatever follows, the lexer reads the text as these lexemes
pub record Lexes (text : List ℕ) (ls : List Lexeme) : Type 0 where
  pub lexed : (rest : List ℕ) → lex between (text ++ rest) ≡ ls ++ lex between rest

pub lexes_then : (a b : List ℕ) (ls ms : List Lexeme) → Lexes a ls → Lexes b ms → Lexes (a ++ b) (ls ++ ms)
lexes_then a b ls ms one two = record {
  lexed = λ rest. ap (lex between) (append_assoc a b rest) ∙ one.lexed (b ++ rest) ∙ ap (λ l. ls ++ l) (two.lexed rest) ∙ sym (append_assoc ls ms (lex between rest));
}

pub lexes_string : (text : List ℕ) → Lexes (json_string text) (token (Token.string text) ∷ [])
unfolding json_string lex
lexes_string text = let body = flat_map json_byte text in record {
  lexed = λ rest. ap (λ t. token (string_token (content plain t)) ∷ lex in_string t) (append_assoc body (34 ∷ []) rest)
      ∙ ap (λ o. token (string_token o) ∷ lex in_string (body ++ 34 ∷ rest)) (string_content text rest)
      ∙ ap (λ ls. token (Token.string text) ∷ ls) (string_passed text rest);
}

-- whatever follows, the text is this value where one may begin
abbrev pub IsText : List ℕ → Json → Type 0
IsText text value = (p : Place) → may_begin p ≡ true → (rest : List ℕ) → punctuate p (lex between (text ++ rest)) ≡ json_tokens value ++ punctuate after_value (lex between rest)

-- whatever follows, the lexemes are this value where one may begin
abbrev pub AreOf : List Lexeme → Json → Type 0
AreOf ls value = (p : Place) → may_begin p ≡ true → (more : List Lexeme) → punctuate p (ls ++ more) ≡ json_tokens value ++ punctuate after_value more

pub text_of_lexemes : (text : List ℕ) (ls : List Lexeme) (value : Json) → Lexes text ls → AreOf ls value → IsText text value
text_of_lexemes text ls value lexes are = λ p may rest. ap (punctuate p) (lexes.lexed rest) ∙ are p may (lex between rest)

-- the tokens of a whole text
whole_tokens : (text : List ℕ) (ls : List Lexeme) → Lexes text ls → tokens text ≡ punctuate fresh ls
unfolding lex
whole_tokens text ls lexes = ap (λ t. punctuate fresh (lex between t)) (sym (append-nil text)) ∙ ap (punctuate fresh) (lexes.lexed [] ∙ append-nil ls)

pub parsed : (text : List ℕ) (value : Json) → tokens text ≡ json_tokens value → depth value ≤ 128 → document text ≡ Some value
parsed text value same shallow =
    ap (option_and_then (λ p. if_last p.0 p.1)) (ap (json.value max_depth) (same ∙ sym (append-nil (json_tokens value))) ∙ value-json_tokens value max_depth [] shallow)

pub string_read : (text : List ℕ) → document (json_string text) ≡ Some (string text)
unfolding punctuate
string_read text = parsed (json_string text) (string text) (whole_tokens (json_string text) (token (Token.string text) ∷ []) (lexes_string text)) (omega arith)

-- ---- lists

closing : List ℕ
closing = codes "\n]\n"

more_items : {A : Type 0} → (item : A → List ℕ) (value : A → Json) (xs : List A) (place : ℕ) → (place == 0) ≡ false → AllByRecursion (λ x. IsText (item x) (value x)) xs
    → punctuate after_value (lex between (items_from item place xs ++ closing)) ≡ items_tokens (items_of (map value xs))
unfolding lex punctuate closing
more_items {A} item value [] place some each = refl
more_items {A} item value (x ∷ xs) place some each = let more = items_from item (place + 1) xs in
    rw some (ap (λ t. punctuate after_comma (lex between t)) (append_assoc (item x) more closing)
    ∙ each.0 after_comma refl (more ++ closing)
    ∙ ap (λ ts. json_tokens (value x) ++ ts) (more_items item value xs (place + 1) (ne_eqb (place + 1) 0 (λ e. omega arith)) each.1))

all_items : {A : Type 0} → (item : A → List ℕ) (value : A → Json) (xs : List A) → AllByRecursion (λ x. IsText (item x) (value x)) xs
    → punctuate fresh (lex between (items_from item 0 xs ++ closing)) ≡ items_tokens (items_of (map value xs))
unfolding lex punctuate closing
all_items {A} item value [] each = refl
all_items {A} item value (x ∷ xs) each = let more = items_from item 1 xs in
    ap (λ t. punctuate fresh (lex between t)) (append_assoc (item x) more closing)
    ∙ each.0 fresh refl (more ++ closing)
    ∙ ap (λ ts. json_tokens (value x) ++ ts) (more_items item value xs 1 refl each.1)

pub items_shallow : {A : Type 0} → (value : A → Json) (xs : List A) → AllByRecursion (λ x. depth (value x) ≤ 1) xs → items_depth (items_of (map value xs)) ≤ 1
items_shallow {A} value [] flat = omega arith
items_shallow {A} value (x ∷ xs) flat = let one : depth (value x) ≤ 1 = flat.0 in let more = items_shallow value xs flat.1 in omega arith

-- a list of texts is the array of their values
pub list_read : {A : Type 0} → (item : A → List ℕ) (value : A → Json) (xs : List A) → AllByRecursion (λ x. IsText (item x) (value x)) xs
    → AllByRecursion (λ x. depth (value x) ≤ 1) xs → document (json_list item xs) ≡ Some (array (items_of (map value xs)))
unfolding lex punctuate closing
list_read {A} item value xs each flat = let shallow = items_shallow value xs flat in
    parsed (json_list item xs) (array (items_of (map value xs))) (ap (λ ts. Token.begin_array ∷ ts) (all_items item value xs each)) (omega arith)

-- the items that are left of a list, with what follows the list
items_in : {A : Type 0} → (item : A → List ℕ) (value : A → Json) (xs : List A) (place : ℕ) (rest : List ℕ) → (place == 0) ≡ false
    → AllByRecursion (λ x. IsText (item x) (value x)) xs
    → punctuate after_value (lex between (items_from item place xs ++ (closing ++ rest))) ≡ items_tokens (items_of (map value xs)) ++ punctuate after_value (lex between rest)
unfolding lex punctuate closing
items_in {A} item value [] place rest some each = refl
items_in {A} item value (x ∷ xs) place rest some each = let more = items_from item (place + 1) xs in
    rw some (ap (λ t. punctuate after_comma (lex between t)) (append_assoc (item x) more (closing ++ rest))
    ∙ each.0 after_comma refl (more ++ (closing ++ rest))
    ∙ ap (λ ts. json_tokens (value x) ++ ts) (items_in item value xs (place + 1) rest (ne_eqb (place + 1) 0 (λ e. omega arith)) each.1)
    ∙ sym (append_assoc (json_tokens (value x)) (items_tokens (items_of (map value xs))) (punctuate after_value (lex between rest))))

all_items_in : {A : Type 0} → (item : A → List ℕ) (value : A → Json) (xs : List A) (rest : List ℕ) → AllByRecursion (λ x. IsText (item x) (value x)) xs
    → punctuate fresh (lex between (items_from item 0 xs ++ (closing ++ rest))) ≡ items_tokens (items_of (map value xs)) ++ punctuate after_value (lex between rest)
unfolding lex punctuate closing
all_items_in {A} item value [] rest each = refl
all_items_in {A} item value (x ∷ xs) rest each = let more = items_from item 1 xs in
    ap (λ t. punctuate fresh (lex between t)) (append_assoc (item x) more (closing ++ rest))
    ∙ each.0 fresh refl (more ++ (closing ++ rest))
    ∙ ap (λ ts. json_tokens (value x) ++ ts) (items_in item value xs 1 rest refl each.1)
    ∙ sym (append_assoc (json_tokens (value x)) (items_tokens (items_of (map value xs))) (punctuate after_value (lex between rest)))

-- a list in another text is the array of its values too
pub list_in : {A : Type 0} → (item : A → List ℕ) (value : A → Json) (xs : List A) → AllByRecursion (λ x. IsText (item x) (value x)) xs
    → IsText (json_list item xs) (array (items_of (map value xs)))
unfolding lex punctuate closing
list_in {A} item value xs each fresh may rest =
    ap (λ t. Token.begin_array ∷ punctuate fresh (lex between t)) (append_assoc (items_from item 0 xs) closing rest)
    ∙ ap (λ ts. Token.begin_array ∷ ts) (all_items_in item value xs rest each)
list_in {A} item value xs each after_value may rest = absurd (cc)
list_in {A} item value xs each after_comma may rest =
    ap (λ t. Token.begin_array ∷ punctuate fresh (lex between t)) (append_assoc (items_from item 0 xs) closing rest)
    ∙ ap (λ ts. Token.begin_array ∷ ts) (all_items_in item value xs rest each)
list_in {A} item value xs each after_key may rest = absurd (cc)

-- ---- the body of an error response

abbrev fault_start : List Lexeme
fault_start = token Token.begin_object ∷ token (Token.string (codes "fault")) ∷ colon ∷ []

first_key : Lexes (codes "{\"fault\":") fault_start
unfolding lex content
first_key = record { lexed = λ rest. refl }

last_brace : Lexes (codes "}\n" ++ []) (token Token.end_object ∷ [])
unfolding lex
last_brace = record { lexed = λ rest. refl }

abbrev fault_value : List ℕ → Json
fault_value name = object (member (codes "fault") (string name) no_members)

lexes_fault : (name : List ℕ) → Lexes (fault_body representation.Json name) (fault_start ++ (token (Token.string name) ∷ token Token.end_object ∷ []))
unfolding fault_body
lexes_fault name = lexes_then (codes "{\"fault\":") (json_string name ++ (codes "}\n" ++ [])) fault_start (token (Token.string name) ∷ token Token.end_object ∷ []) first_key
    (lexes_then (json_string name) (codes "}\n" ++ []) (token (Token.string name) ∷ []) (token Token.end_object ∷ []) (lexes_string name) last_brace)

pub fault_read : (name : List ℕ) → document (fault_body representation.Json name) ≡ Some (fault_value name)
unfolding punctuate
fault_read name = parsed (fault_body representation.Json name) (fault_value name)
    (whole_tokens (fault_body representation.Json name) (fault_start ++ (token (Token.string name) ∷ token Token.end_object ∷ [])) (lexes_fault name)) (omega arith)
