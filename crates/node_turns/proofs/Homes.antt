-- The queues of slots after a key was added or is gone.
use Rattle.std.proofs.Common.{◌≡◌, ◌≢◌, ◌+◌, ◌-◌, ◌<◌, ◌≤◌, ℕ, zero, suc, Bool, true, false, cond, List, [], ◌∷◌, ◌++◌}
use Rattle.std.proofs.Common.{length, get_or, set, count_by, is_some, Option, Some, None, eqb, refl, sym, ap, subst, ◌∙◌, arith, inl, inr}
use Rattle.std.specs.Prelude.{◌==◌, nat_lt}
use Rattle.std.proofs.lemmas.Bool.{cases_eq, cases_lt, eq-eqb, eqb-true, ne_eqb, lt-ltb, le-ltb, ltb-true}
use Rattle.std.proofs.lemmas.List.{get_or-set_same, get_or-set_other, get_or_past, map-set, length-map, length_push, set-get_or}
use Rattle.std.proofs.lemmas.List.Sums.{sum_by-set, count_by-le-length}
use Rattle.node_turns.specs.declared.slot_queue.SlotQueue.{SlotQueue}
use Rattle.node_turns.specs.Flags.{times, has_key, without, AreFlagged, HasKey, IsAdded}
use Rattle.node_turns.specs.Homes.{again, lists_of, list_at, is_home, ring_left, AreHomed, AreRinged}
use Rattle.node_turns.proofs.Flags.{has_here, has_last, times_one, times_both}
use Rattle.node_turns.proofs.Without.{times_other, times_same}

abbrev pub bit : Bool → ℕ
bit b = cond b 1 0

-- the queue of a slot that was changed, and that of another
pub list_here : (queues : List SlotQueue) (slot : ℕ) (queue : SlotQueue) → slot < length queues → list_at (lists_of (set queues slot queue)) slot ≡ queue.keys.items
list_here queues slot queue below =
    ap (λ l. get_or l slot []) (map-set (λ (q : SlotQueue). q.keys.items) queues slot queue)
    ∙ get_or-set_same (lists_of queues) slot queue.keys.items [] (subst (λ n. slot < n) (sym (length-map queues (λ (q : SlotQueue). q.keys.items))) below)

pub list_there : (queues : List SlotQueue) (slot other : ℕ) (queue : SlotQueue) → other ≢ slot → list_at (lists_of (set queues slot queue)) other ≡ list_at (lists_of queues) other
list_there queues slot other queue apart =
    ap (λ l. get_or l other []) (map-set (λ (q : SlotQueue). q.keys.items) queues slot queue)
    ∙ get_or-set_other (lists_of queues) slot other queue.keys.items [] apart

home_is : (slot : ℕ) (home : Option ℕ) → home ≡ Some slot → is_home slot home ≡ true
home_is slot home is = ap (is_home slot) is ∙ eq-eqb slot slot refl

home_is_not : (slot other : ℕ) (home : Option ℕ) → home ≡ Some slot → other ≢ slot → is_home other home ≡ false
home_is_not slot other home is apart = ap (is_home other) is ∙ ne_eqb slot other (λ same. apart (sym same))

-- a key has a home only below the number of keys, and its slot is one of the queues, which has it once
pub home_below : (homes : List (Option ℕ)) (key slot : ℕ) → get_or homes key None ≡ Some slot → key < length homes
home_below homes key slot is = elim (cases_lt key (length homes)) [
  | inl below ↦ below
  | inr past ↦ absurd (let none = get_or_past homes key None past in cc)
]

pub once_there : (queues : List SlotQueue) (homes : List (Option ℕ)) (key slot : ℕ) → AreHomed (lists_of queues) homes → get_or homes key None ≡ Some slot
    → times key (list_at (lists_of queues) slot) ≡ 1
once_there queues homes key slot homed is = homed slot key ∙ ap bit (home_is slot (get_or homes key None) is)

pub slot_below : (queues : List SlotQueue) (homes : List (Option ℕ)) (key slot : ℕ) → AreHomed (lists_of queues) homes → get_or homes key None ≡ Some slot
    → slot < length queues
slot_below queues homes key slot homed is = elim (cases_lt slot (length queues)) [
  | inl below ↦ below
  | inr past ↦ absurd (
      let none : list_at (lists_of queues) slot ≡ [] = get_or_past (lists_of queues) slot [] (omega (arith, past, length-map queues (λ (q : SlotQueue). q.keys.items))) in
      let zero : times key (list_at (lists_of queues) slot) ≡ 0 = ap (times key) none in
      omega (arith, zero, once_there queues homes key slot homed is))
]

-- a key was added at the end of the queue of a slot
pub homed_with : (queues : List SlotQueue) (homes : List (Option ℕ)) (slot key : ℕ) (queue : SlotQueue) → AreHomed (lists_of queues) homes → get_or homes key None ≡ None
    → key < length homes → slot < length queues → queue.keys.items ≡ list_at (lists_of queues) slot ++ key ∷ []
    → AreHomed (lists_of (set queues slot queue)) (set homes key (Some slot))
homed_with queues homes slot key queue homed free within below is other k = elim (cases_eq other slot) [
  | inl same ↦ elim (times_one k key) [
    | inl one ↦
        let home : get_or (set homes key (Some slot)) k None ≡ Some other =
        ap (λ j. get_or (set homes key (Some slot)) j None) (sym one.0) ∙ get_or-set_same homes key (Some slot) None within ∙ ap (λ (s : ℕ). Some s) (sym same) in
        let bit_is : bit (is_home other (get_or (set homes key (Some slot)) k None)) ≡ 1 = ap bit (home_is other _ home) in
        let was : times k (list_at (lists_of queues) slot) ≡ 0 = homed slot k ∙ ap (λ h. bit (is_home slot h)) (ap (λ j. get_or homes j None) (sym one.0) ∙ free) in
        let list : times k (list_at (lists_of (set queues slot queue)) other) ≡ times k (list_at (lists_of queues) slot ++ key ∷ []) =
        ap (λ s. times k (list_at (lists_of (set queues slot queue)) s)) same ∙ ap (times k) (list_here queues slot queue below ∙ is) in
        omega (arith, list, times_both k (list_at (lists_of queues) slot) (key ∷ []), one.1, was, bit_is)
    | inr none ↦
        let home : get_or (set homes key (Some slot)) k None ≡ get_or homes k None = get_or-set_other homes key k (Some slot) None (λ same. none.0 (sym same)) in
        let list : times k (list_at (lists_of (set queues slot queue)) other) ≡ times k (list_at (lists_of queues) slot ++ key ∷ []) =
        ap (λ s. times k (list_at (lists_of (set queues slot queue)) s)) same ∙ ap (times k) (list_here queues slot queue below ∙ is) in
        let was : times k (list_at (lists_of queues) slot) ≡ bit (is_home other (get_or (set homes key (Some slot)) k None)) =
        homed slot k ∙ ap (λ s. bit (is_home s (get_or homes k None))) (sym same) ∙ ap (λ h. bit (is_home other h)) (sym home) in
        omega (arith, list, times_both k (list_at (lists_of queues) slot) (key ∷ []), none.1, was)
  ]
  | inr apart ↦
      ap (times k) (list_there queues slot other queue apart) ∙ homed other k ∙ elim (cases_eq k key) [
        | inl same ↦
            let now : is_home other (get_or (set homes key (Some slot)) k None) ≡ false =
            home_is_not slot other _ (ap (λ j. get_or (set homes key (Some slot)) j None) same ∙ get_or-set_same homes key (Some slot) None within) apart in
            let was : is_home other (get_or homes k None) ≡ false = ap (is_home other) (ap (λ j. get_or homes j None) same ∙ free) in
            ap bit (was ∙ sym now)
        | inr differs ↦ ap (λ h. bit (is_home other h)) (sym (get_or-set_other homes key k (Some slot) None differs))
      ]
]

-- a key is gone from the queue of its slot, which has the others that it had
pub homed_without : (queues : List SlotQueue) (homes : List (Option ℕ)) (slot key : ℕ) (queue : SlotQueue) → AreHomed (lists_of queues) homes
    → get_or homes key None ≡ Some slot → times key queue.keys.items ≡ 0
    → ((other : ℕ) → other ≢ key → times other queue.keys.items ≡ times other (list_at (lists_of queues) slot))
    → AreHomed (lists_of (set queues slot queue)) (set homes key None)
homed_without queues homes slot key queue homed home gone kept other k =
    let within = home_below homes key slot home in
    let below = slot_below queues homes key slot homed home in
    elim (cases_eq other slot) [
      | inl same ↦
          let list : times k (list_at (lists_of (set queues slot queue)) other) ≡ times k queue.keys.items =
          ap (λ s. times k (list_at (lists_of (set queues slot queue)) s)) same ∙ ap (times k) (list_here queues slot queue below) in
          elim (cases_eq k key) [
            | inl is ↦
                list ∙ ap (λ j. times j queue.keys.items) is ∙ gone
                ∙ sym (ap (λ h. bit (is_home other h)) (ap (λ j. get_or (set homes key None) j None) is ∙ get_or-set_same homes key None None within))
            | inr differs ↦
                list ∙ kept k differs ∙ homed slot k ∙ ap (λ s. bit (is_home s (get_or homes k None))) (sym same)
                ∙ ap (λ h. bit (is_home other h)) (sym (get_or-set_other homes key k None None differs))
          ]
      | inr apart ↦
          ap (times k) (list_there queues slot other queue apart) ∙ homed other k ∙ elim (cases_eq k key) [
            | inl is ↦
                let was : is_home other (get_or homes k None) ≡ false = home_is_not slot other _ (ap (λ j. get_or homes j None) is ∙ home) apart in
                let now : is_home other (get_or (set homes key None) k None) ≡ false =
                ap (is_home other) (ap (λ j. get_or (set homes key None) j None) is ∙ get_or-set_same homes key None None within) in
                ap bit (was ∙ sym now)
            | inr differs ↦ ap (λ h. bit (is_home other h)) (sym (get_or-set_other homes key k None None differs))
          ]
    ]

-- the ring after the queue of a slot changed
pub ringed_after : (queues : List SlotQueue) (ring left : List ℕ) (slot : ℕ) (queue : SlotQueue) → AreRinged ring (lists_of queues) → slot < length queues
    → ((other : ℕ) → other ≢ slot → has_key other left ≡ has_key other ring) → has_key slot left ≡ nat_lt 0 (length queue.keys.items)
    → AreRinged left (lists_of (set queues slot queue))
ringed_after queues ring left slot queue ringed below others here other = elim (cases_eq other slot) [
  | inl same ↦
      ap (λ s. has_key s left) same ∙ here
      ∙ sym (ap (λ l. nat_lt 0 (length l)) (ap (λ s. list_at (lists_of (set queues slot queue)) s) same ∙ list_here queues slot queue below))
  | inr apart ↦ others other apart ∙ ringed other ∙ sym (ap (λ l. nat_lt 0 (length l)) (list_there queues slot other queue apart))
]

-- the number of keys with a home after one of them changed
pub count_after : (homes : List (Option ℕ)) (key : ℕ) (home : Option ℕ) → key < length homes
    → count_by is_some (set homes key home) + bit (is_some (get_or homes key None)) ≡ count_by is_some homes + bit (is_some home)
count_after homes key home within = sum_by-set (λ h. cond (is_some h) 1 0) homes key home None within

-- the ring with a slot that has keys, or none
pub left_some : (slot count : ℕ) (ring : List ℕ) → 0 < count → ring_left slot count ring ≡ ring
left_some slot zero ring some = absurd (omega (arith, some))
left_some slot (suc more) ring some = refl

pub left_none : (slot count : ℕ) (ring : List ℕ) → count ≡ 0 → ring_left slot count ring ≡ without slot ring
left_none slot count ring none = ap (λ n. ring_left slot n ring) none

pub again_some : (slot count : ℕ) → 0 < count → again slot count ≡ slot ∷ []
again_some slot zero some = absurd (omega (arith, some))
again_some slot (suc more) some = refl

-- a slot is in the ring that is left exactly if it has keys
pub ring_here : (slot count : ℕ) (ring : List ℕ) → has_key slot ring ≡ true → has_key slot (ring_left slot count ring) ≡ nat_lt 0 count
ring_here slot zero ring has = le-ltb 0 (times slot (without slot ring)) (omega (arith, times_same slot ring))
ring_here slot (suc more) ring has = has ∙ sym (lt-ltb 0 (suc more) (omega arith))

pub ring_there : (slot count other : ℕ) (ring : List ℕ) → other ≢ slot → has_key other (ring_left slot count ring) ≡ has_key other ring
ring_there slot zero other ring apart = ap (nat_lt 0) (times_other slot other ring apart)
ring_there slot (suc more) other ring apart = refl

-- the same where it is added again
pub again_here : (slot count : ℕ) (ring : List ℕ) → times slot ring ≡ 0 → has_key slot (ring ++ again slot count) ≡ nat_lt 0 count
again_here slot zero ring none = le-ltb 0 (times slot (ring ++ [])) (omega (arith, times_both slot ring [], none))
again_here slot (suc more) ring none = lt-ltb 0 (times slot (ring ++ slot ∷ [])) (has_last ring slot) ∙ sym (lt-ltb 0 (suc more) (omega arith))

pub again_there : (slot count other : ℕ) (ring : List ℕ) → other ≢ slot → has_key other (ring ++ again slot count) ≡ has_key other ring
again_there slot zero other ring apart = ap (nat_lt 0) (omega (arith, times_both other ring []))
again_there slot (suc more) other ring apart = elim (times_one other slot) [
  | inl same ↦ absurd (apart (sym same.0))
  | inr none ↦ ap (nat_lt 0) (omega (arith, times_both other ring (slot ∷ []), none.1))
]

pub again_none : (slot count : ℕ) → count ≡ 0 → again slot count ≡ []
again_none slot count none = ap (again slot) none

-- what is read of a queue
pub list_read : (queues : List SlotQueue) (slot : ℕ) (queue : SlotQueue) → slot < length queues → queue ≡ get_or queues slot queue → list_at (lists_of queues) slot ≡ queue.keys.items
list_read [] slot queue below is = absurd (omega (arith, below))
list_read (first ∷ queues) zero queue below is = ap (λ (q : SlotQueue). q.keys.items) (sym is)
list_read (first ∷ queues) (suc slot) queue below is = list_read queues slot queue (omega (arith, below)) is

pub read_back : (queues : List SlotQueue) (slot : ℕ) (queue read : SlotQueue) → slot < length queues → read ≡ get_or (set queues slot queue) slot read
    → length read.keys.items ≡ length queue.keys.items
read_back queues slot queue read below is =
    ap (λ (q : SlotQueue). length q.keys.items) (is ∙ get_or-set_same queues slot queue read below)

-- the lists after a queue changed
pub lists_set : (queues : List SlotQueue) (slot : ℕ) (queue : SlotQueue) (keys : List ℕ) → queue.keys.items ≡ keys → lists_of (set queues slot queue) ≡ set (lists_of queues) slot keys
lists_set queues slot queue keys is = map-set (λ (q : SlotQueue). q.keys.items) queues slot queue ∙ ap (λ l. set (lists_of queues) slot l) is

-- the slot of a key is in the ring
pub ring_has : (queues : List SlotQueue) (homes : List (Option ℕ)) (ring : List ℕ) (key slot : ℕ) → AreHomed (lists_of queues) homes → AreRinged ring (lists_of queues)
    → get_or homes key None ≡ Some slot → has_key slot ring ≡ true
ring_has queues homes ring key slot homed ringed is =
    let once = once_there queues homes key slot homed is in
    let most : times key (list_at (lists_of queues) slot) ≤ length (list_at (lists_of queues) slot) = count_by-le-length (λ other. other == key) (list_at (lists_of queues) slot) in
    ringed slot ∙ lt-ltb 0 (length (list_at (lists_of queues) slot)) (omega (arith, once, most))

-- the ring after a key is gone from its slot
pub ringed_without : (queues : List SlotQueue) (homes : List (Option ℕ)) (ring left : List ℕ) (key slot count : ℕ) (queue : SlotQueue) → AreHomed (lists_of queues) homes
    → AreRinged ring (lists_of queues) → get_or homes key None ≡ Some slot → left ≡ ring_left slot count ring → count ≡ length queue.keys.items
    → AreRinged left (lists_of (set queues slot queue))
ringed_without queues homes ring left key slot count queue homed ringed home is long =
    ringed_after queues ring left slot queue ringed (slot_below queues homes key slot homed home)
    (λ other apart. ap (has_key other) is ∙ ring_there slot count other ring apart)
    (ap (has_key slot) is ∙ ring_here slot count ring (ring_has queues homes ring key slot homed ringed home) ∙ ap (nat_lt 0) long)

-- the number of keys after one is gone
pub counted_without : (homes : List (Option ℕ)) (key slot len : ℕ) → get_or homes key None ≡ Some slot → len ≡ count_by is_some homes
    → (0 < len) × (len - 1 ≡ count_by is_some (set homes key None))
counted_without homes key slot len home counted =
    let one : bit (is_some (get_or homes key None)) ≡ 1 = ap (λ h. bit (is_some h)) home in
    let after = count_after homes key None (home_below homes key slot home) in
    (omega (arith, one, after, counted), omega (arith, one, after, counted))

-- what is left of a queue that ends with a key
pub dropped_times : (queues : List SlotQueue) (homes : List (Option ℕ)) (key slot : ℕ) (keys : List ℕ) → AreHomed (lists_of queues) homes
    → get_or homes key None ≡ Some slot → list_at (lists_of queues) slot ≡ keys ++ key ∷ []
    → (times key keys ≡ 0) × ((other : ℕ) → other ≢ key → times other keys ≡ times other (list_at (lists_of queues) slot))
dropped_times queues homes key slot keys homed home is = (
  elim (times_one key key) [
    | inl one ↦ omega (arith, once_there queues homes key slot homed home, ap (times key) is, times_both key keys (key ∷ []), one.1)
    | inr none ↦ absurd (none.0 refl)
  ],
  λ other apart. elim (times_one other key) [
    | inl one ↦ absurd (apart (sym one.0))
    | inr none ↦ omega (arith, ap (times other) is, times_both other keys (key ∷ []), none.1)
  ],
)

-- a queue that did not change
pub unchanged : (queues : List SlotQueue) (slot : ℕ) (queue : SlotQueue) → queue ≡ get_or queues slot queue → slot < length queues → set queues slot queue ≡ queues
unchanged queues slot queue is below = ap (set queues slot) is ∙ set-get_or queues slot queue

-- the queue of the first slot of the ring has a key
pub ring_front : (queues : List SlotQueue) (ring rest : List ℕ) (slot : ℕ) → AreRinged ring (lists_of queues) → ring ≡ slot ∷ rest
    → (slot < length queues) × (0 < length (list_at (lists_of queues) slot))
ring_front queues ring rest slot ringed is =
    let has : HasKey ring slot = subst (λ l. HasKey l slot) (sym is) (has_here rest slot) in
    let some : 0 < length (list_at (lists_of queues) slot) =
    ltb-true 0 (length (list_at (lists_of queues) slot)) (sym (ringed slot) ∙ lt-ltb 0 (times slot ring) has) in (
      elim (cases_lt slot (length queues)) [
        | inl below ↦ below
        | inr past ↦ absurd (
            let none : list_at (lists_of queues) slot ≡ [] = get_or_past (lists_of queues) slot [] (omega (arith, past, length-map queues (λ (q : SlotQueue). q.keys.items))) in
            omega (arith, some, ap (λ l. length l) none))
      ],
      some,
    )

pub ring_once : (ring rest : List ℕ) (flags : List Bool) (slot : ℕ) → AreFlagged ring flags → ring ≡ slot ∷ rest → times slot rest ≡ 0
ring_once ring rest flags slot flagged is = by (get_or flags slot false) (flagged slot)
  where
    one : times slot (slot ∷ []) ≡ 1
    one = elim (times_one slot slot) [ inl same ↦ same.1 | inr not ↦ absurd (not.0 refl) ]

    by : (b : Bool) → times slot ring ≡ bit b → times slot rest ≡ 0
    by true count = omega (arith, count, ap (times slot) is, times_both slot (slot ∷ []) rest, one)
    by false count = omega (arith, count, ap (times slot) is, times_both slot (slot ∷ []) rest, one)

-- a key of a queue has its slot as its home
pub home_from : (queues : List SlotQueue) (homes : List (Option ℕ)) (key slot : ℕ) → AreHomed (lists_of queues) homes → HasKey (list_at (lists_of queues) slot) key
    → get_or homes key None ≡ Some slot
home_from queues homes key slot homed has = by (get_or homes key None) (homed slot key)
  where
    at : (home : ℕ) (b : Bool) → eqb home slot ≡ b → times key (list_at (lists_of queues) slot) ≡ bit b → Some home ≡ Some slot
    at home true is count = ap (λ (s : ℕ). Some s) (eqb-true home slot is)
    at home false is count = absurd (omega (arith, has, count))

    by : (home : Option ℕ) → times key (list_at (lists_of queues) slot) ≡ bit (is_home slot home) → home ≡ Some slot
    by None count = absurd (omega (arith, has, count))
    by (Some home) count = at home (eqb home slot) refl count

-- what is left of a queue that begins with a key
pub taken_times : (queues : List SlotQueue) (homes : List (Option ℕ)) (key slot : ℕ) (keys : List ℕ) → AreHomed (lists_of queues) homes
    → get_or homes key None ≡ Some slot → list_at (lists_of queues) slot ≡ key ∷ keys
    → (times key keys ≡ 0) × ((other : ℕ) → other ≢ key → times other keys ≡ times other (list_at (lists_of queues) slot))
taken_times queues homes key slot keys homed home is = (
  elim (times_one key key) [
    | inl one ↦ omega (arith, once_there queues homes key slot homed home, ap (times key) is, times_both key (key ∷ []) keys, one.1)
    | inr none ↦ absurd (none.0 refl)
  ],
  λ other apart. elim (times_one other key) [
    | inl one ↦ absurd (apart (sym one.0))
    | inr none ↦ omega (arith, ap (times other) is, times_both other (key ∷ []) keys, none.1)
  ],
)

-- the ring after a key of its first slot was taken
pub ringed_taken : (queues : List SlotQueue) (ring rest left : List ℕ) (slot count : ℕ) (queue : SlotQueue) → AreRinged ring (lists_of queues) → ring ≡ slot ∷ rest
    → times slot rest ≡ 0 → left ≡ rest ++ again slot count → count ≡ length queue.keys.items → AreRinged left (lists_of (set queues slot queue))
ringed_taken queues ring rest left slot count queue ringed front none is long =
    ringed_after queues ring left slot queue ringed (ring_front queues ring rest slot ringed front).0
    (λ other apart. ap (has_key other) is ∙ again_there slot count other rest apart ∙ ap (nat_lt 0) (elim (times_one other slot) [
      | inl same ↦ absurd (apart (sym same.0))
      | inr differs ↦ omega (arith, ap (times other) front, times_both other (slot ∷ []) rest, differs.1)
    ]))
    (ap (has_key slot) is ∙ again_here slot count rest none ∙ ap (nat_lt 0) long)

-- the ring after a key was added to the queue of a slot
pub ringed_added : (queues : List SlotQueue) (ring left keys : List ℕ) (slot key : ℕ) (queue : SlotQueue) → AreRinged ring (lists_of queues) → slot < length queues
    → IsAdded slot ring left → queue.keys.items ≡ keys ++ key ∷ [] → AreRinged left (lists_of (set queues slot queue))
ringed_added queues ring left keys slot key queue ringed below added is =
    ringed_after queues ring left slot queue ringed below
    (λ other apart. elim added [
      | inl there ↦ ap (has_key other) there.1
      | inr joined ↦ ap (has_key other) joined.1 ∙ again_there slot 1 other ring apart
    ])
    (here ∙ sym (lt-ltb 0 (length queue.keys.items) (omega (arith, ap (λ l. length l) is, length_push keys key))))
  where
    here : has_key slot left ≡ true
    here = elim added [
      | inl there ↦ ap (has_key slot) there.1 ∙ lt-ltb 0 (times slot ring) there.0
      | inr joined ↦ ap (has_key slot) joined.1 ∙ lt-ltb 0 (times slot (ring ++ slot ∷ [])) (has_last ring slot)
    ]

-- a key without a home
pub none_of : (home : Option ℕ) → is_some home ≡ false → home ≡ None
none_of None none = refl
none_of (Some slot) none = absurd (cc)

-- the number of keys after one was added
pub counted_with : (homes : List (Option ℕ)) (key slot len : ℕ) → key < length homes → get_or homes key None ≡ None → len ≡ count_by is_some homes
    → len + 1 ≡ count_by is_some (set homes key (Some slot))
counted_with homes key slot len within free counted =
    let zero : bit (is_some (get_or homes key None)) ≡ 0 = ap (λ h. bit (is_some h)) free in
    omega (arith, zero, count_after homes key (Some slot) within, counted)

-- a queue that has the keys that it had
pub same_lists_of : (queues : List SlotQueue) (slot : ℕ) (queue : SlotQueue) → slot < length queues → queue.keys.items ≡ list_at (lists_of queues) slot
    → lists_of (set queues slot queue) ≡ lists_of queues
same_lists_of queues slot queue below is = lists_set queues slot queue (list_at (lists_of queues) slot) is ∙ set-get_or (lists_of queues) slot []

-- the first key of the first slot of the ring has this slot as its home
pub front_home : (queues : List SlotQueue) (homes : List (Option ℕ)) (ring rest left : List ℕ) (slot key : ℕ) (queue : SlotQueue) → AreHomed (lists_of queues) homes
    → AreRinged ring (lists_of queues) → ring ≡ slot ∷ rest → queue ≡ get_or queues slot queue → queue.keys.items ≡ key ∷ left
    → (get_or homes key None ≡ Some slot) × (list_at (lists_of queues) slot ≡ key ∷ left)
front_home queues homes ring rest left slot key queue homed ringed first read front =
    let is : list_at (lists_of queues) slot ≡ key ∷ left = list_read queues slot queue (ring_front queues ring rest slot ringed first).0 read ∙ front in
    (home_from queues homes key slot homed (subst (λ l. HasKey l key) (sym is) (has_here left key)), is)
