-- The response `unavailable` says that the connection closes.
use Rattle.std.proofs.Common.{◌≡◌, ◌<◌, ℕ, List, [], ◌∷◌, ◌++◌, length, codes, Some, true, false, refl, arith}
use Rattle.std.specs.List.{list_all}
use Rattle.std.specs.Char.{is_ascii_digit}
use Rattle.std.proofs.lemmas.List.Elements.{All-from_recursion}
use Rattle.std.proofs.lemmas.List.Sums.{AllPass-from_list_all}
use Rattle.httparse.specs.Grammar.{ResponseHead, IsResponseHead, print_response, Field, IsField, crlf, is_value_byte, is_token_byte}
use Rattle.httparse.proofs.OnLiterals.{httparse_on_literals}
use Rattle.feed_http_heads.specs.Options.{lacks_close, SaysWhetherItKeeps}
use Rattle.node_connection.specs.Responses.{unavailable}

abbrev field : List ℕ → List ℕ → Field
field name value = record { name = name; raw = 32 ∷ value; end = crlf }

is_field : (name value : List ℕ) → 0 < length name → list_all is_token_byte name ≡ true → list_all is_value_byte (32 ∷ value) ≡ true → IsField (field name value)
is_field name value some token passes = record { name = (some, AllPass-from_list_all is_token_byte name token); raw = AllPass-from_list_all is_value_byte (32 ∷ value) passes }

abbrev fields : List Field
fields =
    field (codes "Content-Type") (codes "text/plain; charset=utf-8") ∷ field (codes "Content-Length") (codes "12") ∷ field (codes "Retry-After") (codes "1") ∷
    field (codes "Cache-Control") (codes "no-cache") ∷ field (codes "Vary") (codes "Accept") ∷ field (codes "X-Content-Type-Options") (codes "nosniff") ∷
    field (codes "Referrer-Policy") (codes "no-referrer") ∷ field (codes "Access-Control-Allow-Origin") (codes "*") ∷ field (codes "Connection") (codes "close") ∷ []

abbrev head : ResponseHead
head = record { blank = []; minor = 1; digits = codes "503"; reason = Some (codes "Service Unavailable"); line_end = crlf; fields = fields; last = crlf }

valid : IsResponseHead head
unfolding httparse_on_literals
valid = record {
  minor = omega arith;
  digits = (refl, AllPass-from_list_all is_ascii_digit (codes "503") refl);
  reason = AllPass-from_list_all is_value_byte (codes "Service Unavailable") refl;
  fields = All-from_recursion IsField fields (
    is_field (codes "Content-Type") (codes "text/plain; charset=utf-8") (omega arith) refl refl,
    (
      is_field (codes "Content-Length") (codes "12") (omega arith) refl refl,
      (
        is_field (codes "Retry-After") (codes "1") (omega arith) refl refl,
        (
          is_field (codes "Cache-Control") (codes "no-cache") (omega arith) refl refl,
          (
            is_field (codes "Vary") (codes "Accept") (omega arith) refl refl,
            (
              is_field (codes "X-Content-Type-Options") (codes "nosniff") (omega arith) refl refl,
              (
                is_field (codes "Referrer-Policy") (codes "no-referrer") (omega arith) refl refl,
                (
                  is_field (codes "Access-Control-Allow-Origin") (codes "*") (omega arith) refl refl,
                  (is_field (codes "Connection") (codes "close") (omega arith) refl refl, tt),
                ),
              ),
            ),
          ),
        ),
      ),
    ),
  );
}

printed : unavailable ≡ print_response head ++ codes "Unavailable\n"
unfolding print_response
printed = refl

closes : lacks_close fields ≡ false
unfolding httparse_on_literals
closes = refl

pub unavailable_says : SaysWhetherItKeeps false unavailable
unavailable_says = record { head = head; rest = codes "Unavailable\n"; reads = (valid, printed); says = closes }
