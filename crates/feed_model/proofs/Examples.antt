-- Worked examples: a release of 10 bytes in pieces, and small histories around it.
use Rattle.std.proofs.Common.{◌≡◌, ◌<◌, ◌⊎◌, ℕ, zero, suc, List, [], ◌∷◌, length, Some, None, Ok, Err, inl, inr, refl, arith, pos, slice_get, true, false}
use Rattle.feed_names.specs.ReleaseName.{Name, IsEarlier}
use Rattle.feed_kbart.specs.declared.fault.BadFile.TheVariants.{NoHeader}
use Rattle.feed_model.specs.declared.reply.Reply.TheVariants as replies
use Rattle.feed_model.specs.declared.reply.Refusal.TheVariants as refusals
use Rattle.feed_model.specs.declared.state.State.TheVariants.{Staged, Broken, Active}
use Rattle.feed_model.specs.History.{Offered, Piece, Lost, History, size_of, kept, IsFile, IsWhole, IsPassed, IsHeld}
use Rattle.feed_model.specs.Reply.{missing_below, IsRightWithin, IsRight, history_after}
use Rattle.feed_model.specs.Earlier.{earlier_limits, without_refused}
use Rattle.feed_model.specs.Content.{Part, Record, record_of, byte_in, AreParts}
use Rattle.feed_model.specs.Change.{Pieces, merged, new_record, without_earlier, after}

abbrev january : Name
january = record { package_name = 88 ∷ []; day = pos 0 }

abbrev february : Name
february = record { package_name = 88 ∷ []; day = pos 31 }

abbrev part : ℕ → List ℕ → Part
part first bytes = record { first = first; bytes = bytes }

-- `01` of a file of 4 bytes is kept, and then `x2` at 1 is refused
abbrev begun : History
begun =
    (Piece january 1 None (120 ∷ 50 ∷ []), Err refusals.Conflict)
    ∷ (Piece january 0 None (48 ∷ 49 ∷ []), Ok (replies.Stored 2))
    ∷ (Offered january 4, Ok replies.Noted)
    ∷ []

-- `123` at 1 completes the file
abbrev ended : History
ended = (Piece january 1 (Some 4) (49 ∷ 50 ∷ 51 ∷ []), Ok replies.Activated) ∷ begun

size_is_of_the_offer : size_of begun january ≡ Some 4
size_is_of_the_offer = refl

size_of_another_release : size_of begun february ≡ None
size_of_another_release = refl

first_byte_stays : kept ended january 1 ≡ Some 49
first_byte_stays = refl

refused_byte_is_not_kept : kept begun january 2 ≡ None
refused_byte_is_not_kept = refl

two_places_are_missing : missing_below (kept begun january) 4 ≡ 2
two_places_are_missing = refl

no_place_is_missing : missing_below (kept ended january) 4 ≡ 0
no_place_is_missing = refl

file_is_whole : IsFile ended january (48 ∷ 49 ∷ 50 ∷ 51 ∷ [])
file_is_whole = (refl, at)
  where
    at : (place : ℕ) → place < 4 → kept ended january place ≡ slice_get (48 ∷ 49 ∷ 50 ∷ 51 ∷ []) place
    at zero lt = refl
    at (suc zero) lt = refl
    at (suc (suc zero)) lt = refl
    at (suc (suc (suc zero))) lt = refl
    at (suc (suc (suc (suc place)))) lt = absurd (omega arith)

file_is_not_whole : ¬ (IsWhole begun january)
file_is_not_whole whole = no whole.0 whole.1.0 whole.1.1
  where
    no : (text : List ℕ) → Some 4 ≡ Some (length text) → ((place : ℕ) → place < length text → kept begun january place ≡ slice_get text place) → ⊥
    no [] size at = absurd (cc)
    no (a ∷ []) size at = absurd (cc)
    no (a ∷ b ∷ []) size at = absurd (cc)
    no (a ∷ b ∷ c ∷ text) size at = (let u : None ≡ Some c = at 2 (omega arith) in absurd (cc))

-- `01`, `45` and `8` of 10 bytes are kept, and `1234567` at 1 fills two gaps
abbrev gaps : List Part
gaps = part 0 (48 ∷ 49 ∷ []) ∷ part 4 (52 ∷ 53 ∷ []) ∷ part 8 (56 ∷ []) ∷ []

abbrev filled : List Part
filled = part 0 (48 ∷ 49 ∷ []) ∷ part 2 (50 ∷ 51 ∷ []) ∷ part 4 (52 ∷ 53 ∷ []) ∷ part 6 (54 ∷ 55 ∷ []) ∷ part 8 (56 ∷ []) ∷ []

parts_stand_in_order : merged gaps (part 2 (50 ∷ 51 ∷ []) ∷ part 6 (54 ∷ 55 ∷ []) ∷ []) ≡ filled
parts_stand_in_order = refl

byte_of_a_part : byte_in gaps 5 ≡ Some 53
byte_of_a_part = refl

byte_of_no_part : byte_in gaps 6 ≡ None
byte_of_no_part = refl

one_place_is_left : missing_below (byte_in filled) 10 ≡ 1
one_place_is_left = refl

gaps_are_parts : AreParts gaps
gaps_are_parts = (omega arith, omega arith, omega arith, (omega arith, omega arith, omega arith, (omega arith, omega arith, omega arith, tt)))

-- records
abbrev staged : Record
staged = record { name = january; size = 10; state = Staged; reason = None; parts = gaps }

abbrev active : Record
active = record { name = february; size = 0; state = Active; reason = None; parts = [] }

an_offer_begins_without_parts : new_record january 10 ≡ record { name = january; size = 10; state = Staged; reason = None; parts = [] }
an_offer_begins_without_parts = refl

an_empty_file_is_bad : new_record january 0 ≡ record { name = january; size = 0; state = Broken; reason = Some NoHeader; parts = [] }
an_empty_file_is_bad = refl

record_of_a_name : record_of (staged ∷ active ∷ []) february ≡ Some active
record_of_a_name = refl

earlier_days_go : without_earlier february (staged ∷ active ∷ []) ≡ active ∷ []
earlier_days_go = refl

later_days_stay : without_earlier january (staged ∷ active ∷ []) ≡ staged ∷ active ∷ []
later_days_stay = refl

parts_are_added : after (Pieces january (part 2 (50 ∷ 51 ∷ []) ∷ part 6 (54 ∷ 55 ∷ []) ∷ []))
    (staged ∷ active ∷ []) ≡ record { name = january; size = 10; state = Staged; reason = None; parts = filled } ∷ active ∷ []
parts_are_added = refl

-- answers
too_large : IsRight begun (Offered february 268435457) (Err refusals.TooLarge)
too_large = inl (omega arith, refl)

-- a file of 64 MiB and a byte was too large at first, and is so no more
was_too_large : IsRightWithin earlier_limits begun (Offered february 67108865) (Err refusals.TooLarge)
was_too_large = inl (omega arith, refl)

is_too_large_no_more : ¬ (IsRight begun (Offered february 67108865) (Err refusals.TooLarge))
is_too_large_no_more (inl (past, e)) = absurd (omega (arith, past))
is_too_large_no_more (inr (within, inl (passed, e))) = absurd (cc)
is_too_large_no_more (inr (within, inr (ahead, inl (held, inl (same, e))))) = absurd (cc)
is_too_large_no_more (inr (within, inr (ahead, inl (held, inr (other, e))))) = absurd (cc)
is_too_large_no_more (inr (within, inr (ahead, inr (out, inl (full, e))))) = absurd (cc)
is_too_large_no_more (inr (within, inr (ahead, inr (out, inr (room, inl (none, e)))))) = absurd (omega (arith, none))
is_too_large_no_more (inr (within, inr (ahead, inr (out, inr (room, inr (some, inl e)))))) = absurd (cc)
is_too_large_no_more (inr (within, inr (ahead, inr (out, inr (room, inr (some, inr (inl e))))))) = absurd (cc)
is_too_large_no_more (inr (within, inr (ahead, inr (out, inr (room, inr (some, inr (inr e))))))) = absurd (cc)

refused_offers_are_left_out : without_refused ((Offered february 67108865, Err refusals.TooLarge) ∷ begun) ≡ begun
refused_offers_are_left_out = refl

an_empty_piece : IsRight begun (Piece january 0 None []) (Err refusals.BadPiece)
an_empty_piece = inl (inl refl, refl)

a_loss : IsRight begun (Lost january) (Ok replies.Nothing)
a_loss = refl

nothing_is_passed : ¬ (IsPassed [] january)
nothing_is_passed passed = (let u : None ≡ Some (length passed.1.0.0) = passed.1.0.1.0 in absurd (cc))

nothing_is_held : ¬ (IsHeld [] january)
nothing_is_held held = (let u : false ≡ true = held.0 in absurd (cc))

an_unknown_release : IsRight [] (Piece january 0 None (48 ∷ [])) (Err refusals.Unknown)
an_unknown_release = inr (small, inr (nothing_is_passed, inl (nothing_is_held, refl)))
  where
    small : ¬ ((◌≡◌ {A = ℕ} 1 0) ⊎ (1048576 < 1))
    small (inl e) = absurd (cc)
    small (inr lt) = absurd (omega arith)

newest_event_first : history_after [] (Offered january 4 ∷ Lost january ∷ []) (Ok replies.Noted ∷ Ok replies.Nothing ∷ []) ≡ (Lost january, Ok replies.Nothing) ∷
    (Offered january 4, Ok replies.Noted) ∷ []
newest_event_first = refl

of_an_earlier_day : IsEarlier january february
of_an_earlier_day = (refl, omega arith)
