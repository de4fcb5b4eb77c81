-- A turn goes round the addresses.
use Rattle.std.proofs.Common.{◌≡◌, ◌≢◌, ◌+◌, ◌*◌, ◌<◌, ◌≤◌, ℕ, zero, suc, Bool, true, false, cond, not}
use Rattle.std.proofs.Common.{List, [], ◌∷◌, ◌++◌, length, length-append, append_assoc, refl, sym, ap, subst, ◌∙◌, arith, inl, inr}
use Rattle.std.specs.Prelude.{filter}
use Rattle.std.proofs.Math.Nat.{suc-mul}
use Rattle.std.proofs.lemmas.Bool.{cases_eq, cases_Bool, lt-ltb}
use Rattle.std.proofs.lemmas.List.Elements.{filter-append}
use Rattle.std.proofs.lemmas.List.Sums.{length-filter, count_by-le-length}
use Rattle.node_turns.specs.Flags.{has_key}
use Rattle.node_turns.specs.Homes.{again}
use Rattle.node_turns.specs.Served.{left_of, has_left, HasGone, IsReachedWithin, EachAddressIsServed}
use Rattle.node_turns.proofs.Homes.{again_some}

-- an element that passes a test is between those that pass of the ones before and behind it
passes : (test : ℕ → Bool) (front back : List ℕ) (item : ℕ) → test item ≡ true → filter test (front ++ item ∷ back) ≡ filter test front ++ item ∷ filter test back
passes test front back item is =
    filter-append test front (item ∷ back) ∙ ap (λ b. filter test front ++ cond b (item ∷ filter test back) (filter test back)) is

fewer : (test : ℕ → Bool) (items : List ℕ) → length (filter test items) ≤ length items
fewer test items = omega (arith, length-filter test items, count_by-le-length test items)

-- a key is where it says, before at most so many addresses and behind at most so many keys of its own
record IsAt (ring : List ℕ) (queue : List ℕ) (slot key keys slots : ℕ) : Type 0 where
  ahead : List ℕ
  follow : List ℕ
  before : List ℕ
  behind : List ℕ
  ring_is : ring ≡ ahead ++ slot ∷ follow
  queue_is : queue ≡ before ++ key ∷ behind
  few_keys : length before ≤ keys
  few_slots : length ahead ≤ slots

abbrev Reaches : ℕ → ℕ → ℕ → Type 0
Reaches most keys slots =
    (ring : ℕ → List ℕ) (queue : ℕ → ℕ → List ℕ) (gone : (n : ℕ) → HasGone (ring n) (ring (suc n)) (queue n) (queue (suc n))) (slot key : ℕ)
    → ((n : ℕ) → length (ring n) ≤ most) → IsAt (ring 0) (queue 0 slot) slot key keys slots
    → IsReachedWithin ring queue gone slot key (keys * most + slots)

-- what one step makes of the place of a key
data Next (ring queue : List ℕ) (slot key taken_slot taken_key keys slots most : ℕ) : Type 0 where
  Now : taken_slot ≡ slot → taken_key ≡ key → Next ring queue slot key taken_slot taken_key keys slots most
  Nearer : (fewer_slots : ℕ) → slots ≡ suc fewer_slots → IsAt ring queue slot key keys fewer_slots → Next ring queue slot key taken_slot taken_key keys slots most
  Again : (fewer_keys others : ℕ) → keys ≡ suc fewer_keys → suc others ≤ most → IsAt ring queue slot key fewer_keys others
      → Next ring queue slot key taken_slot taken_key keys slots most

predecessor : (less more : ℕ) → suc less ≤ more → (n : ℕ) × (more ≡ suc n) × (less ≤ n)
predecessor less zero is = absurd (omega (arith, is))
predecessor less (suc n) is = (n, refl, omega (arith, is))

module _ (ring next : List ℕ) (queue after : ℕ → List ℕ) (gone : HasGone ring next queue after) (slot key keys slots most : ℕ) (few : length ring ≤ most)
    (at : IsAt ring (queue slot) slot key keys slots) (stays : has_key key gone.removed ≡ false) where
  abbrev test : ℕ → Bool
  test other = has_left gone.removed queue other

  abbrev before : List ℕ
  before = left_of gone.removed at.before

  abbrev behind : List ℕ
  behind = left_of gone.removed at.behind

  left : left_of gone.removed (queue slot) ≡ before ++ key ∷ behind
  left = ap (left_of gone.removed) at.queue_is ∙ passes (λ other. not (has_key other gone.removed)) at.before at.behind key (ap not stays)

  some : test slot ≡ true
  some = lt-ltb 0 (length (left_of gone.removed (queue slot))) (omega (arith, ap (λ l. length l) left, length-append before (key ∷ behind)))

  abbrev ahead : List ℕ
  ahead = filter test at.ahead

  abbrev follow : List ℕ
  follow = filter test at.follow

  ring_left : gone.slot ∷ gone.others ≡ ahead ++ slot ∷ follow
  ring_left = sym gone.first ∙ ap (filter test) at.ring_is ∙ passes test at.ahead at.follow slot some

  short : length gone.others < most
  short = let fit : length (filter (has_left gone.removed queue) ring) ≤ length ring = fewer (has_left gone.removed queue) ring in omega (arith, ap (λ l. length l) gone.first, fit, few)

  -- the address of the key gave a key: this one, or one before it
  own : gone.slot ≡ slot → (keys_before : List ℕ) → length keys_before ≤ keys → gone.key ∷ gone.rest ≡ keys_before ++ key ∷ behind
      → Next next (after slot) slot key gone.slot gone.key keys slots most
  own same [] within is = Now same (cc)
  own same (first ∷ keys_left) within is =
      let less = predecessor (length keys_left) keys within in
      let rest : gone.rest ≡ keys_left ++ key ∷ behind = (cc) in
      let more : 0 < length gone.rest = omega (arith, ap (λ l. length l) rest, length-append keys_left (key ∷ behind)) in
      Again less.0 (length gone.others) less.1 short (record {
        ahead = gone.others;
        follow = gone.joined;
        before = keys_left;
        behind = behind ++ gone.added gone.slot;
        ring_is =
            gone.is ∙ ap (λ l. (gone.others ++ l) ++ gone.joined) (again_some gone.slot (length gone.rest) more ∙ ap (λ n. n ∷ []) same)
            ∙ append_assoc gone.others (slot ∷ []) gone.joined;
        queue_is =
            ap after (sym same) ∙ gone.here ∙ ap (λ l. l ++ gone.added gone.slot) rest ∙ append_assoc keys_left (key ∷ behind) (gone.added gone.slot);
        few_keys = less.2;
        few_slots = omega arith;
      })

  -- another one did
  other : gone.slot ≢ slot → (slots_ahead : List ℕ) → length slots_ahead ≤ slots → gone.slot ∷ gone.others ≡ slots_ahead ++ slot ∷ follow
      → Next next (after slot) slot key gone.slot gone.key keys slots most
  other apart [] within is = absurd (apart (cc))
  other apart (first ∷ slots_left) within is =
      let less = predecessor (length slots_left) slots within in
      let others : gone.others ≡ slots_left ++ slot ∷ follow = (cc) in
      Nearer less.0 less.1 (record {
        ahead = slots_left;
        follow = follow ++ (again gone.slot (length gone.rest) ++ gone.joined);
        before = before;
        behind = behind ++ gone.added slot;
        ring_is =
            gone.is ∙ append_assoc gone.others (again gone.slot (length gone.rest)) gone.joined
            ∙ ap (λ l. l ++ (again gone.slot (length gone.rest) ++ gone.joined)) others
            ∙ append_assoc slots_left (slot ∷ follow) (again gone.slot (length gone.rest) ++ gone.joined);
        queue_is = gone.there slot (λ same. apart (sym same)) ∙ ap (λ l. l ++ gone.added slot) left ∙ append_assoc before (key ∷ behind) (gone.added slot);
        few_keys = let fit : length before ≤ length at.before = fewer (λ other. not (has_key other gone.removed)) at.before in omega (arith, fit, at.few_keys);
        few_slots = less.2;
      })

  step : Next next (after slot) slot key gone.slot gone.key keys slots most
  step = elim (cases_eq gone.slot slot) [
    | inl same ↦
        let fit : length before ≤ length at.before = fewer (λ other. not (has_key other gone.removed)) at.before in
        own same before (omega (arith, fit, at.few_keys)) (sym gone.front ∙ ap (λ s. left_of gone.removed (queue s)) same ∙ left)
    | inr apart ↦
        let fit : length ahead ≤ length at.ahead = fewer test at.ahead in other apart ahead (omega (arith, fit, at.few_slots)) ring_left
  ]

-- one step, and the rest of the way
module _ (most keys slots : ℕ) (nearer : (less : ℕ) → slots ≡ suc less → Reaches most keys less)
    (again_later : (less : ℕ) (others : ℕ) → keys ≡ suc less → Reaches most less others) where
  reach : Reaches most keys slots
  reach ring queue gone slot key few at = elim (cases_Bool (has_key key (gone 0).removed)) [
    | inl removed ↦ record { step = 0; early = omega arith; served = inr removed }
    | inr stays ↦ by (step (ring 0) (ring 1) (queue 0) (queue 1) (gone 0) slot key keys slots most (few 0) at stays)
  ]
    where
      later : (bound : ℕ) → suc bound ≤ keys * most + slots
          → IsReachedWithin (λ n. ring (suc n)) (λ n. queue (suc n)) (λ n. gone (suc n)) slot key bound → IsReachedWithin ring queue gone slot key (keys * most + slots)
      later bound less is = record { step = suc is.step; early = omega (arith, is.early, less); served = is.served }

      by : Next (ring 1) (queue 1 slot) slot key (gone 0).slot (gone 0).key keys slots most → IsReachedWithin ring queue gone slot key (keys * most + slots)
      by (Now same is) = record { step = 0; early = omega arith; served = inl (same, is) }
      by (Nearer less fewer_slots next) =
          later (keys * most + less) (omega (arith, fewer_slots)) (nearer less fewer_slots (λ n. ring (suc n)) (λ n. queue (suc n)) (λ n. gone (suc n)) slot key (λ n. few (suc n)) next)
      by (Again less others fewer_keys short next) =
          let cost : keys * most ≡ less * most + most = ap (λ n. n * most) fewer_keys ∙ suc-mul less most in
          later (less * most + others) (omega (arith, cost, short))
          (again_later less others fewer_keys (λ n. ring (suc n)) (λ n. queue (suc n)) (λ n. gone (suc n)) slot key (λ n. few (suc n)) next)

along : (most keys : ℕ) → ((less : ℕ) (others : ℕ) → keys ≡ suc less → Reaches most less others) → (slots : ℕ) → Reaches most keys slots
along most keys again_later zero = reach most keys zero (λ less is. absurd (omega (arith, is))) again_later
along most keys again_later (suc slots) =
    reach most keys (suc slots)
    (λ less is. subst (λ n. Reaches most keys n) (the_same slots less is) (along most keys again_later slots)) again_later
  where
    the_same : (a b : ℕ) → suc a ≡ suc b → a ≡ b
    the_same a b is = omega (arith, is)

all : (most keys slots : ℕ) → Reaches most keys slots
all most zero slots = along most zero (λ less others is. absurd (omega (arith, is))) slots
all most (suc keys) slots =
    along most (suc keys) (λ less others is. subst (λ n. Reaches most n others) (the_same keys less is) (all most keys others)) slots
  where
    the_same : (a b : ℕ) → suc a ≡ suc b → a ≡ b
    the_same a b is = omega (arith, is)

pub each_reached : EachAddressIsServed
each_reached ring queue gone most slot key ahead follow before behind few ring_is queue_is =
    all most (length before) (length ahead) ring queue gone slot key few
    (record {
      ahead = ahead;
      follow = follow;
      before = before;
      behind = behind;
      ring_is = ring_is;
      queue_is = queue_is;
      few_keys = omega arith;
      few_slots = omega arith;
    })
