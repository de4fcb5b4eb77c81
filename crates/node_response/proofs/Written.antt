-- Writing in steps writes the whole.
use Rattle.std.proofs.Common.{◌≡◌, ℕ, Bool, List, ◌++◌, length, ap, ◌∙◌, append_assoc}
use Rattle.node_response.specs.Responses.{ResponseValue, status_line, status_field, status_code, is_bodiless, content_fields, tag_field, cache_field, last_fields, response_head}

-- in three steps
pub in_three : (old one two new a b c : List ℕ) → one ≡ old ++ a → two ≡ one ++ b → new ≡ two ++ c → new ≡ old ++ (a ++ (b ++ c))
in_three old one two new a b c first second third =
    third ∙ ap (λ t. t ++ c) (second ∙ ap (λ t. t ++ b) first) ∙ append_assoc (old ++ a) b c ∙ append_assoc old a (b ++ c)

-- and in four
pub in_four : (old one two three new a b c d : List ℕ) → one ≡ old ++ a → two ≡ one ++ b → three ≡ two ++ c → new ≡ three ++ d
    → new ≡ old ++ (a ++ (b ++ (c ++ d)))
in_four old one two three new a b c d first second third fourth =
    in_three old one two new a b (c ++ d) first second (fourth ∙ ap (λ t. t ++ d) third ∙ append_assoc two c d)

-- in six steps
pub in_six : (old one two three four five new a b c d e f : List ℕ) → one ≡ old ++ a → two ≡ one ++ b → three ≡ two ++ c → four ≡ three ++ d → five ≡ four ++ e → new ≡ five ++ f
    → new ≡ old ++ (a ++ (b ++ (c ++ (d ++ (e ++ f)))))
in_six old one two three four five new a b c d e f first second third fourth fifth sixth =
    in_four old one two three new a b c (d ++ (e ++ f)) first second third (in_three three four five new d e f fourth fifth sixth)

-- the head of a response
pub head_written : (keeps : Bool) (old one two three four five new : List ℕ) (reply : ResponseValue) (size age : ℕ) → size ≡ length reply.body → age ≡ reply.max_age
    → one ≡ old ++ status_line reply.status
    → two ≡ one ++ status_field reply.status reply.location
    → three ≡ two ++ content_fields (is_bodiless (status_code reply.status)) reply.representation size
    → four ≡ three ++ tag_field reply.tag
    → five ≡ four ++ cache_field age
    → new ≡ five ++ last_fields keeps reply.representation reply.redirects
    → new ≡ old ++ response_head keeps reply
unfolding response_head
head_written keeps old one two three four five new reply size age sized aged first second third fourth fifth sixth =
    in_six old one two three four five new
    (status_line reply.status) (status_field reply.status reply.location)
    (content_fields (is_bodiless (status_code reply.status)) reply.representation (length reply.body))
    (tag_field reply.tag) (cache_field reply.max_age) (last_fields keeps reply.representation reply.redirects)
    first second (rw (← sized) third) fourth (rw (← aged) fifth) sixth
