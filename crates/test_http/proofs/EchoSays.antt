-- The responses on a connection say whether it persists.
use Rattle.std.proofs.Common.{◌≡◌, ◌<◌, ℕ, Bool, List, [], ◌∷◌, ◌++◌, length, codes, Some, true, false, refl, sym, subst, arith, append_assoc}
use Rattle.std.specs.List.{list_all}
use Rattle.std.specs.Char.{is_ascii_digit}
use Rattle.std.proofs.lemmas.List.Elements.{All-from_recursion}
use Rattle.std.proofs.lemmas.List.Sums.{AllPass-from_list_all}
use Rattle.httparse.specs.Grammar.{ResponseHead, IsResponseHead, print_response, Field, IsField, crlf, is_value_byte, is_token_byte}
use Rattle.httparse.proofs.OnLiterals.{httparse_on_literals}
use Rattle.feed_http_heads.specs.Options.{lacks_close, SaysWhetherItKeeps}
use Rattle.test_http.specs.EchoHeads.{start_of}

abbrev close_field : Field
close_field = record { name = codes "Connection"; raw = codes " close"; end = crlf }

abbrev fields : Bool → List Field
fields true = []
fields false = close_field ∷ []

abbrev head : Bool → ResponseHead
head persists = record { blank = []; minor = 1; digits = codes "200"; reason = Some (codes "OK"); line_end = crlf; fields = fields persists; last = crlf }

close_valid : IsField close_field
unfolding httparse_on_literals
close_valid = record { name = (omega arith, AllPass-from_list_all is_token_byte (codes "Connection") refl); raw = AllPass-from_list_all is_value_byte (codes " close") refl }

valid : (persists : Bool) → IsResponseHead (head persists)
unfolding httparse_on_literals
valid true = record {
  minor = omega arith;
  digits = (refl, AllPass-from_list_all is_ascii_digit (codes "200") refl);
  reason = AllPass-from_list_all is_value_byte (codes "OK") refl;
  fields = All-from_recursion IsField (fields true) tt;
}
valid false = record {
  minor = omega arith;
  digits = (refl, AllPass-from_list_all is_ascii_digit (codes "200") refl);
  reason = AllPass-from_list_all is_value_byte (codes "OK") refl;
  fields = All-from_recursion IsField (fields false) (close_valid, tt);
}

printed : (persists : Bool) (rest : List ℕ) → start_of persists ++ rest ≡ print_response (head persists) ++ rest
unfolding print_response
printed true rest = refl
printed false rest = refl

says : (persists : Bool) → lacks_close (fields persists) ≡ persists
unfolding httparse_on_literals
says true = refl
says false = refl

start_says : (persists : Bool) (rest : List ℕ) → SaysWhetherItKeeps persists (start_of persists ++ rest)
start_says persists rest = record { head = head persists; rest = rest; reads = (valid persists, printed persists rest); says = says persists }

pub echo_says : (persists : Bool) (text first second : List ℕ) → text ≡ (start_of persists ++ first) ++ second → SaysWhetherItKeeps persists text
echo_says persists text first second is = rw (is, append_assoc (start_of persists) first second) (start_says persists (first ++ second))
