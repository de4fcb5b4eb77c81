-- The bytes of a piece that are new to the stored parts.
use Rattle.std.proofs.Common.{if◌then◌else◌, ◌≡◌, ◌<◌, ◌≤◌, ◌+◌, ◌-◌, ◌++◌, ◌⊎◌, inl, inr, max}
use Rattle.std.proofs.Common.{Bool, true, false, nat_lt, ℕ, List, [], ◌∷◌, length, append-nil, Option, Some, None, IsSome}
use Rattle.std.proofs.Common.{All, refl, sym, ◌∙◌, ap, subst, arith}
use Rattle.std.proofs.lemmas.Bool.{cases_lt, ltb-true, ltb-false}
use Rattle.std.proofs.lemmas.List.Elements.{All-nil, All-push, All-weaker}
use Rattle.feed_model.specs.History.{or_else, byte_at}
use Rattle.feed_model.specs.Reply.{max_piece}
use Rattle.feed_model.specs.Content.{Part, byte_in, end_of, ArePartsFrom}
use Rattle.feed_model.specs.Parts.{HasNew, Adds, AreWithin}
use Rattle.feed_parts.specs.Cut.{cut, cuts}
use Rattle.feed_parts.proofs.Places.{cases_option, some_not_none, first_none, second_none, byte_at_before, byte_at_after, cut_bytes, cut_length, none_after, byte_in_append, parts_push}
use Rattle.feed_parts.proofs.Merged.{all_merged, merged_bytes, merged_parts}

-- a byte of the piece, where none is kept
abbrev pub fresh : Option ℕ → Option ℕ → Option ℕ
fresh None byte = byte
fresh (Some x) byte = None

fresh_none : (o byte : Option ℕ) → byte ≡ None → fresh o byte ≡ None
fresh_none None byte e = e
fresh_none (Some x) byte e = refl

fresh_kept : (o byte : Option ℕ) → IsSome o → fresh o byte ≡ None
fresh_kept None byte e = absurd (cc e)
fresh_kept (Some x) byte e = refl

fresh_missing : (o byte : Option ℕ) → o ≡ None → fresh o byte ≡ byte
fresh_missing o byte e = rw e refl

-- the new parts have the piece's new bytes below a place
pub record AreFresh (size first : ℕ) (bytes : List ℕ) (all : List Part) (place : ℕ) (new : List Part) : Type 0 where
  pub parts : ArePartsFrom 0 new
  pub inside : All (λ p. end_of p ≤ size) new
  pub past : All (λ p. end_of p ≤ place) new
  pub brings : (at : ℕ) → at < place → byte_in new at ≡ fresh (byte_in all at) (byte_at first bytes at)

pub fresh_start : (size first : ℕ) (bytes : List ℕ) (all : List Part) → AreFresh size first bytes all first []
fresh_start size first bytes all = record {
  parts = tt;
  inside = All-nil (λ p. end_of p ≤ size);
  past = All-nil (λ p. end_of p ≤ first);
  brings = λ at lt. sym (fresh_none (byte_in all at) (byte_at first bytes at) (byte_at_before first bytes at lt));
}

module _ (size first : ℕ) (bytes : List ℕ) (all : List Part) (inside : first + length bytes ≤ size) (piece : length bytes ≤ max_piece) (place : ℕ) (new : List Part)
    (so_far : AreFresh size first bytes all place new) where
  -- past places that are kept
  pub fresh_past : (next : ℕ) → place ≤ next → ((at : ℕ) → place ≤ at → at < next → at < first + length bytes → IsSome (byte_in all at)) → AreFresh size first bytes all next new
  fresh_past next le kept = record {
    parts = so_far.parts;
    inside = so_far.inside;
    past = All-weaker (λ p. end_of p ≤ place) (λ p. end_of p ≤ next) (λ p e. omega arith) new so_far.past;
    brings = λ at lt. by at lt (cases_lt at place) (cases_lt at (first + length bytes));
  }
    where
      by : (at : ℕ) → at < next → (at < place) ⊎ (place ≤ at) → (at < first + length bytes) ⊎ (first + length bytes ≤ at)
          → byte_in new at ≡ fresh (byte_in all at) (byte_at first bytes at)
      by at lt (inl before) end = so_far.brings at before
      by at lt (inr from) (inl below) = none_after place new so_far.past at from ∙ sym (fresh_kept (byte_in all at) (byte_at first bytes at) (kept at from lt below))
      by at lt (inr from) (inr over) = none_after place new so_far.past at from ∙ sym (fresh_none (byte_in all at) (byte_at first bytes at) (byte_at_after first bytes at over))

  -- a gap, if there is one
  fresh_gap : (to : ℕ) → first ≤ place → place < to → to ≤ first + length bytes → ((at : ℕ) → place ≤ at → at < to → byte_in all at ≡ None)
      → AreFresh size first bytes all to (new ++ cut first bytes place to ∷ [])
  fresh_gap to le lt end lacks = record {
    parts = parts_push 0 new part so_far.parts so_far.past (omega arith) (omega (arith, len)) (omega (arith, len));
    inside = All-push (λ p. end_of p ≤ size) new part so_far.inside (omega (arith, len));
    past = All-push (λ p. end_of p ≤ to) new part (All-weaker (λ p. end_of p ≤ place) (λ p. end_of p ≤ to) (λ p e. omega arith) new so_far.past) (omega (arith, len));
    brings = λ at below. byte_in_append new (part ∷ []) at ∙ by at below (cases_lt at place);
  }
    where
      part : Part
      part = cut first bytes place to

      len : length part.bytes ≡ to - place
      len = cut_length first place (to - place) bytes le (omega arith)

      by : (at : ℕ) → at < to → (at < place) ⊎ (place ≤ at) → or_else (byte_in new at) (byte_in (part ∷ []) at) ≡ fresh (byte_in all at) (byte_at first bytes at)
      by at below (inl before) = second_none (byte_in new at) (byte_in (part ∷ []) at) (second_none (byte_at place part.bytes at) None refl ∙ byte_at_before place part.bytes at before)
          ∙ so_far.brings at before
      by at below (inr from) =
          first_none (byte_in new at) (byte_in (part ∷ []) at) (none_after place new so_far.past at from)
          ∙ second_none (byte_at place part.bytes at) None refl
          ∙ cut_bytes first place (to - place) bytes le (omega arith) at from (omega arith)
          ∙ sym (fresh_missing (byte_in all at) (byte_at first bytes at) (lacks at from below))

  pub fresh_more : (to : ℕ) → first ≤ place → to ≤ first + length bytes → ((at : ℕ) → place ≤ at → at < to → byte_in all at ≡ None)
      → AreFresh size first bytes all (max place to) (new ++ cuts first bytes place to)
  fresh_more to le end lacks = by (nat_lt place to) refl
    where
      by : (b : Bool) → nat_lt place to ≡ b → AreFresh size first bytes all (max place to) (new ++ (if b then cut first bytes place to ∷ [] else []))
      by true t =
          let lt = ltb-true place to t in
          let same : to ≡ max place to = omega arith in
          subst (λ at. AreFresh size first bytes all at (new ++ cut first bytes place to ∷ [])) same (fresh_gap to le lt end lacks)
      by false t =
          let ge = ltb-false place to t in
          let same : place ≡ max place to = omega arith in
          subst (λ at. AreFresh size first bytes all at (new ++ [])) same (rw (append-nil new) so_far)

-- parts inside a file are inside a longer one
pub fresh_wider : (size wide first : ℕ) (bytes : List ℕ) (all : List Part) (place : ℕ) (new : List Part) → size ≤ wide → AreFresh size first bytes all place new
    → AreFresh wide first bytes all place new
fresh_wider size wide first bytes all place new le fresh_parts = record {
  parts = fresh_parts.parts;
  inside = All-weaker (λ p. end_of p ≤ size) (λ p. end_of p ≤ wide) (λ p e. omega arith) new fresh_parts.inside;
  past = fresh_parts.past;
  brings = fresh_parts.brings;
}

-- at the end of the piece, the new parts have all of its new bytes
module _ (size first : ℕ) (bytes : List ℕ) (all : List Part) (place : ℕ) (new : List Part) (kept : AreWithin size all) (so_far : AreFresh size first bytes all place new)
    (end : first + length bytes ≤ place) where
  brings : (at : ℕ) → byte_in new at ≡ fresh (byte_in all at) (byte_at first bytes at)
  brings at = by (cases_lt at place)
    where
      by : (at < place) ⊎ (place ≤ at) → byte_in new at ≡ fresh (byte_in all at) (byte_at first bytes at)
      by (inl below) = so_far.brings at below
      by (inr past) = none_after place new so_far.past at past ∙ sym (fresh_none (byte_in all at) (byte_at first bytes at) (byte_at_after first bytes at (omega arith)))

  apart : (at : ℕ) → (byte_in all at ≡ None) ⊎ (byte_in new at ≡ None)
  apart at = by (cases_option (byte_in all at))
    where
      by : (byte_in all at ≡ None) ⊎ ((x : ℕ) × (byte_in all at ≡ Some x)) → (byte_in all at ≡ None) ⊎ (byte_in new at ≡ None)
      by (inl none) = inl none
      by (inr some) = inr (brings at ∙ fresh_kept (byte_in all at) (byte_at first bytes at) (rw some.1 refl))

  or_fresh : (o byte : Option ℕ) → or_else o (fresh o byte) ≡ or_else o byte
  or_fresh None byte = refl
  or_fresh (Some x) byte = refl

  pub fresh_adds : Adds size all first bytes new
  fresh_adds = record {
    union = λ at. merged_bytes 0 all new at so_far.parts (apart at) ∙ ap (or_else (byte_in all at)) (brings at) ∙ or_fresh (byte_in all at) (byte_at first bytes at);
    order = record { parts = so_far.parts; inside = so_far.inside };
    whole = record {
      parts = merged_parts 0 all new kept.parts so_far.parts apart;
      inside = all_merged (λ p. end_of p ≤ size) all new kept.inside so_far.inside;
    };
  }

  pub fresh_some : HasNew all first bytes → 0 < length new
  fresh_some has = by new (brings has.0)
    where
      by : (ps : List Part) → byte_in ps has.0 ≡ fresh (byte_in all has.0) (byte_at first bytes has.0) → 0 < length ps
      by [] e = absurd (some_not_none (byte_at first bytes has.0) has.1 (sym (fresh_missing (byte_in all has.0) (byte_at first bytes has.0) has.2) ∙ sym e))
      by (p ∷ ps) e = omega arith
