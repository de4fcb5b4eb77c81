-- The request at the front of the bytes held.
use Rattle.std.proofs.Common.{◌≡◌, ◌≤◌, ℕ, List, length, ap, ◌∙◌, arith, length-append}
use Rattle.httparse.specs.Grammar.{RequestHead, print_request}
use Rattle.feed_http_heads.specs.Limits.{head_limit, field_limit}
use Rattle.feed_http_heads.specs.RequestHeads.{BeginsWithHead}
use Rattle.node_connection.specs.declared.head_state.FoundRequest.{FoundRequest}
use Rattle.node_connection.specs.Requests.{body_len_of, body_limit}
use Rattle.node_connection.specs.Responses.{IsFound, IsFoundIn}

pub found_in : (wanted : RequestHead → ℕ) (bytes : List ℕ) (size asked : ℕ) (head : RequestHead) (found : FoundRequest) → BeginsWithHead head_limit field_limit bytes head
    → size ≡ length (print_request head) → asked ≡ wanted head → asked ≤ body_limit → IsFound head size asked found → found.body_len ≤ asked
    → IsFoundIn wanted bytes found
found_in wanted bytes size asked head found begins size_is asked_is limit is bound =
    record {
      head = head;
      begins = begins;
      found = record {
        head_len_is = is.head_len_is ∙ size_is;
        body_is = is.body_is ∙ ap (λ n. body_len_of n head) asked_is;
        persists_is = is.persists_is;
        expects_is = is.expects_is;
      };
      within = omega (arith, is.head_len_is, size_is, ap length begins.reads.1, length-append (print_request head) begins.rest);
      small = omega (arith, bound, limit);
    }
