-- The order of closing, and the connections that are closed by it.
use Rattle.std.proofs.Common.{◌≡◌, ◌≢◌, ◌+◌, ◌-◌, ◌<◌, ◌≤◌, ◌⊎◌, ◌||◌, ◌==◌, ℕ, suc, Bool, true, false, cond, eqb, eqb-true, min, not}
use Rattle.std.proofs.Common.{List, [], ◌∷◌, length, get_or, set, Option, Some, None, is_some, IsSome, IsPermutation, refl, sym, ap, subst, ◌∙◌, arith, inl, inr}
use Rattle.std.specs.Prelude.{All, Contains, nat_lt}
use Rattle.std.specs.BinaryHeap.{IsHeap, IsUpperBound}
use Rattle.std.specs.Ordering.{nat_cmp}
use Rattle.std.proofs.lemmas.Bool.{both_ways, cases_eq, cases_lt, false_from_ne_true}
use Rattle.std.proofs.lemmas.List.{get_or-set_other}
use Rattle.std.proofs.lemmas.List.Elements.{All-cons, All-contains, All-head, All-nil, All-tail, All-weaker, Contains-append_cases, Contains-append_right}
use Rattle.std.proofs.lemmas.List.Sums.{sum_by-cons}
use Rattle.std.proofs.lemmas.List.Sorted.{All-permutation, Contains-permutation, first_le_from_greatest}
use Rattle.node_connection.specs.declared.phase.Shortage.TheVariants.{Places}
use Rattle.node_connection.specs.States.{closing_rank}
use Rattle.node_turns.specs.declared.ready_queues.ReadyQueues.{ReadyQueues}
use Rattle.node_turns.specs.declared.round_queue.RoundQueue.{RoundQueue}
use Rattle.node_turns.specs.Flags.{has_key, times, without}
use Rattle.node_turns.specs.Rounds.{home_of, IsRemovedFrom}
use Rattle.node_turns.specs.Turns.{is_waiting, spare_keys, IsGone}
use Rattle.node_table.specs.declared.log.CloseCause.{CloseCause}
use Rattle.node_table.specs.declared.log.CloseCause.TheVariants.{Evicted}
use Rattle.node_table.specs.declared.peer.Peer.{Peer}
use Rattle.node_table.specs.declared.table.Table.{Table}
use Rattle.node_table.specs.Logs.{Entry}
use Rattle.node_table.specs.Tables.{is_closed_first, peer_at, size_of, waits, IsFirstToClose, IsRemoved, KeepsConnections}
use Rattle.node_table.specs.Places.{closing_priority, compare_entries, elapsed_end, AreClosable, AreEvictions, HasPlaces, IsClosable, IsEntry, IsEviction, IsOrder, IsOrderBelow}
use Rattle.node_table.proofs.Firsts.{past, same_peer, with_limit}
use Rattle.node_table.proofs.Order.{not_before_greater, not_first_of}

-- a key that is removed leaves where the others are
home_left : (key other : ℕ) (old new : RoundQueue) → other ≢ key → IsRemovedFrom key old new → home_of new other ≡ home_of old other
home_left key other old new apart (inl same) = ap (λ queue. home_of queue other) same.1
home_left key other old new apart (inr out) =
    ap (λ homes. get_or homes other None) out.1.home ∙ get_or-set_other old.homes.items key other None None apart

-- whether a key is the other one, as a number
abbrev one_if : Bool → ℕ
one_if is = cond is 1 0

-- and how often they are in a queue
times_left : (key other : ℕ) (keys : List ℕ) → other ≢ key → times other (without key keys) ≡ times other keys
times_left key other [] apart = refl
times_left key other (first ∷ keys) apart = by (eqb first key) refl (times_left key other keys apart)
  where
    whole : times other (first ∷ keys) ≡ one_if (first == other) + times other keys
    whole = sum_by-cons (λ k. one_if (k == other)) first keys

    by : (b : Bool) → eqb first key ≡ b → times other (without key keys) ≡ times other keys → times other (without key (first ∷ keys)) ≡ times other (first ∷ keys)
    by true is rest =
        let gone = ap (λ b. cond (not b) (first ∷ without key keys) (without key keys)) is in
        let none : one_if (first == other) ≡ 0 =
        ap one_if (false_from_ne_true (first == other) (λ same. apart (sym (eqb-true first other same) ∙ eqb-true first key is))) in
        omega (arith, ap (times other) gone, whole, none, rest)
    by false is rest =
        let kept = ap (λ b. cond (not b) (first ∷ without key keys) (without key keys)) is in
        omega (arith, ap (times other) kept, sum_by-cons (λ k. one_if (k == other)) first (without key keys), whole, rest)

-- and whether they wait
pub waiting_left : (key other : ℕ) (old new : ReadyQueues) → other ≢ key → IsGone key old new → is_waiting new other ≡ is_waiting old other
waiting_left key other old new apart gone =
    ap (λ home. is_some home || has_key other (spare_keys new)) (home_left key other old.fresh new.fresh apart gone.0)
    ∙ ap (λ keys. is_some (home_of old.fresh other) || has_key other keys) gone.2
    ∙ ap (λ n. is_some (home_of old.fresh other) || nat_lt 0 n) (times_left key other (spare_keys old) apart)

-- an entry is the first one or among the others
first_or_rest : (entry other : ℕ × ℕ) (rest : List (ℕ × ℕ)) → other.1 ≢ entry.1 → Contains (entry ∷ rest) other → Contains rest other
first_or_rest entry other rest apart has = elim (Contains-append_cases (entry ∷ []) rest other has) [
  | inl first ↦ absurd (apart (All-contains (λ (e : ℕ × ℕ). e.1 ≡ entry.1) (entry ∷ []) other (All-cons (λ (e : ℕ × ℕ). e.1 ≡ entry.1) entry [] refl (All-nil (λ (e : ℕ × ℕ). e.1 ≡ entry.1))) first))
  | inr later ↦ later
]

module _ {T : Type 0} where
  no_peer : {A : Type 0} (slot : Option (Peer T)) (peer : Peer T) → slot ≡ None → slot ≡ Some peer → A
  no_peer slot peer none some = absurd (cc)

  -- an empty order of no connections
  pub order_empty : (table : Table T) → IsOrderBelow table 0 []
  order_empty table = record {
    each = All-nil (IsEntry table);
    all = λ key peer below there idle. absurd (omega (arith, below));
  }

  -- a connection that may not be closed has no entry
  pub order_skips : (table : Table T) (key : ℕ) (entries : List (ℕ × ℕ)) → ((peer : Peer T) → peer_at table key ≡ Some peer → waits Places table key ≡ true)
      → IsOrderBelow table key entries → IsOrderBelow table (key + 1) entries
  order_skips table key entries not before = record {
    each = before.each;
    all = λ other peer below there idle. elim (with_limit key other below) [
      | inl same ↦ absurd (both_ways (waits Places table key) (ap (waits Places table) (sym same) ∙ idle) (not peer (ap (peer_at table) (sym same) ∙ there)))
      | inr less ↦ before.all other peer less there idle
    ];
  }

  -- one that may has one
  pub order_adds : (table : Table T) (key priority : ℕ) (entries more : List (ℕ × ℕ)) (peer : Peer T) → peer_at table key ≡ Some peer
      → waits Places table key ≡ false → priority ≡ closing_priority peer.connection → peer.connection.elapsed < elapsed_end
      → IsPermutation ((priority, key) ∷ entries) more → IsOrderBelow table key entries → IsOrderBelow table (key + 1) more
  order_adds table key priority entries more peer there idle is below moved before = record {
    each = All-permutation (IsEntry table) ((priority, key) ∷ entries) more moved (All-cons (IsEntry table) (priority, key) entries own before.each);
    all = λ other rival less at apart. Contains-permutation ((priority, key) ∷ entries) more (closing_priority rival.connection, other) moved (elim (with_limit key other less) [
      | inl same ↦ first other rival same at
      | inr lower ↦ Contains-append_right ((priority, key) ∷ []) entries (closing_priority rival.connection, other) (before.all other rival lower at apart)
    ]);
  }
    where
      own : IsEntry table (priority, key)
      own rival at =
          subst (λ (p : Peer T). (priority ≡ closing_priority p.connection) × (p.connection.elapsed < elapsed_end) × (waits Places table key ≡ false))
          (same_peer rival peer (peer_at table key) at there) (is, below, idle)

      first : (other : ℕ) (rival : Peer T) → other ≡ key → peer_at table other ≡ Some rival
          → Contains ((priority, key) ∷ entries) (closing_priority rival.connection, other)
      first other rival same at =
          let it : peer ≡ rival = same_peer rival peer (peer_at table key) (ap (peer_at table) (sym same) ∙ at) there in
          let level : priority ≡ closing_priority rival.connection = is ∙ ap (λ (p : Peer T). closing_priority p.connection) it in
          (0, omega arith, ap (λ n. (n, key)) level ∙ ap (λ k. (closing_priority rival.connection, k)) (sym same))

  -- once all keys were looked at, the entries are those of all
  pub order_whole : (table : Table T) (limit : ℕ) (entries : List (ℕ × ℕ)) → length table.peers.slots ≤ limit → IsOrderBelow table limit entries → IsOrder table entries
  order_whole table limit entries within below other = record {
    each = below.each;
    all = λ key peer less there idle. below.all key peer (here key peer there) there idle;
  }
    where
      here : (key : ℕ) (peer : Peer T) → peer_at table key ≡ Some peer → key < limit
      here key peer there = elim (cases_lt key limit) [
        | inl less ↦ less
        | inr over ↦ no_peer (peer_at table key) peer (past table limit key within over) there
      ]

  -- the first of the order is the first that is closed, and does not wait
  pub first_of_order : (table : Table T) (entries rest : List (ℕ × ℕ)) (entry : ℕ × ℕ) (peer : Peer T) → IsPermutation entries (entry ∷ rest)
      → IsUpperBound compare_entries entry entries → IsOrder table entries → peer_at table entry.1 ≡ Some peer
      → IsFirstToClose Places table entry.1 × (waits Places table entry.1 ≡ false)
  first_of_order table entries rest entry peer moved bound order there = (
    record { peer = peer; there = there; first = first },
    is.2,
  )
    where
      is : (entry.0 ≡ closing_priority peer.connection) × (peer.connection.elapsed < elapsed_end) × (waits Places table entry.1 ≡ false)
      is = All-head (IsEntry table) entry rest (All-permutation (IsEntry table) entries (entry ∷ rest) moved (order 0).each) peer there

      first : (other : ℕ) (rival : Peer T) → peer_at table other ≡ Some rival
          → is_closed_first Places table other rival entry.1 peer ≡ false
      first other rival at =
          not_first_of (waits Places table other) (waits Places table entry.1) _ is.2 (λ idle.
          let has = (order (other + 1)).all other rival (omega arith) at idle in
          let most : closing_priority rival.connection ≤ entry.0 =
          All-contains (λ (e : ℕ × ℕ). e.0 ≤ entry.0) entries (closing_priority rival.connection, other) (first_le_from_greatest nat_cmp entry entries bound) has in
          not_before_greater (closing_rank Places rival.connection) rival.connection.elapsed (closing_rank Places peer.connection) peer.connection.elapsed
          (omega (arith, most, is.0)) is.1)

  -- without it, the order is that of what is left
  pub rest_of_order : (old new : Table T) (entries rest : List (ℕ × ℕ)) (entry : ℕ × ℕ) → IsPermutation entries (entry ∷ rest) → IsOrder old entries
      → ((other : ℕ) → other ≢ entry.1 → peer_at new other ≡ peer_at old other) → peer_at new entry.1 ≡ None
      → ((other : ℕ) → other ≢ entry.1 → waits Places new other ≡ waits Places old other) → IsOrder new rest
  rest_of_order old new entries rest entry moved order others gone kept limit = record {
    each = All-weaker (IsEntry old) (IsEntry new) entry_left rest (All-tail (IsEntry old) entry rest (All-permutation (IsEntry old) entries (entry ∷ rest) moved (order limit).each));
    all = λ key peer below there idle. elim (cases_eq key entry.1) [
      | inl same ↦ no_peer (peer_at new entry.1) peer gone (ap (peer_at new) (sym same) ∙ there)
      | inr apart ↦
          first_or_rest entry (closing_priority peer.connection, key) rest apart
          (Contains-permutation entries (entry ∷ rest) (closing_priority peer.connection, key) moved
          ((order limit).all key peer below (sym (others key apart) ∙ there) (sym (kept key apart) ∙ idle)))
    ];
  }
    where
      entry_left : (other : ℕ × ℕ) → IsEntry old other → IsEntry new other
      entry_left other is peer there = elim (cases_eq other.1 entry.1) [
        | inl same ↦ no_peer (peer_at new entry.1) peer gone (ap (peer_at new) (sym same) ∙ there)
        | inr apart ↦ (let was = is peer (sym (others other.1 apart) ∙ there) in (was.0, was.1, kept other.1 apart ∙ was.2))
      ]

  -- no connection may be closed if the order has no entries
  pub none_in_order : (table : Table T) (entries : List (ℕ × ℕ)) → length entries ≡ 0 → IsOrder table entries → (key : ℕ) → ¬ (IsClosable table key)
  none_in_order table entries empty order key closable = by (peer_at table key) refl
    where
      by : (slot : Option (Peer T)) → peer_at table key ≡ slot → ⊥
      by None none = cc
      by (Some peer) there = let has = (order (key + 1)).all key peer (omega arith) there closable.1 in omega (arith, has.1, empty)

  -- the connections that remain are as they were
  pub keeps_evicted : {L : Type 0} (records : L → Entry → L → Type 0) (now : ℕ) (first old new : Table T) (log after : L) → KeepsConnections first old
      → IsEviction records now old new log after → KeepsConnections first new
  keeps_evicted records now first old new log after keeps evicted key peer there = elim (cases_eq key evicted.key) [
    | inl same ↦ no_peer (peer_at new evicted.key) peer evicted.removed.gone (ap (peer_at new) (sym same) ∙ there)
    | inr apart ↦ keeps key peer (sym (evicted.removed.others key apart) ∙ there)
  ]

  -- what is left of the order after its first one is closed, or was gone before
  pub order_after : {L : Type 0} (records : L → Entry → L → Type 0) (cause : CloseCause) (now : ℕ) (old new : Table T) (log after : L)
      (entries rest : List (ℕ × ℕ)) (entry : ℕ × ℕ) → IsPermutation entries (entry ∷ rest) → IsOrder old entries
      → (IsSome (peer_at old entry.1) → IsRemoved records entry.1 cause now old new log after)
      → (peer_at old entry.1 ≡ None → (new ≡ old) × (after ≡ log)) → IsOrder new rest
  order_after records cause now old new log after entries rest entry moved order removed absent = by (peer_at old entry.1) refl
    where
      by : (slot : Option (Peer T)) → peer_at old entry.1 ≡ slot → IsOrder new rest
      by None none =
          subst (λ table. IsOrder table rest) (sym (absent none).0)
          (rest_of_order old old entries rest entry moved order (λ other apart. refl) none (λ other apart. refl))
      by (Some peer) there =
          let gone = removed (subst (λ slot. IsSome slot) (sym there) refl) in
          rest_of_order old new entries rest entry moved order gone.others gone.gone (λ other apart. waiting_left entry.1 other old.ready new.ready apart gone.ready)

  -- if it was there, it is the first of all that is closed
  pub eviction_after : {L : Type 0} (records : L → Entry → L → Type 0) (now : ℕ) (old new : Table T) (log after : L)
      (entries rest : List (ℕ × ℕ)) (entry : ℕ × ℕ) → IsPermutation entries (entry ∷ rest) → IsUpperBound compare_entries entry entries → IsOrder old entries
      → (IsSome (peer_at old entry.1) → IsRemoved records entry.1 Evicted now old new log after)
      → (peer_at old entry.1 ≡ None → (new ≡ old) × (after ≡ log)) → ((new ≡ old) × (after ≡ log)) ⊎ IsEviction records now old new log after
  eviction_after records now old new log after entries rest entry moved bound order removed absent = by (peer_at old entry.1) refl
    where
      by : (slot : Option (Peer T)) → peer_at old entry.1 ≡ slot → ((new ≡ old) × (after ≡ log)) ⊎ IsEviction records now old new log after
      by None none = inl (absent none)
      by (Some peer) there =
          let is = first_of_order old entries rest entry peer moved bound order there in
          inr (record { key = entry.1; first = is.0; idle = is.1; removed = removed (subst (λ slot. IsSome slot) (sym there) refl) })

  -- connections were closed one after the other, each the first of an order, while there were too few places
  pub record IsMaking {L : Type 0} (records : L → Entry → L → Type 0) (count now total done : ℕ) (first table : Table T) (log after : L)
      (entries : List (ℕ × ℕ)) (left : ℕ) : Type 0 where
    pub number : ℕ
    pub evictions : AreEvictions records number now first table log after
    pub clients : table.clients ≡ first.clients
    pub few : (size_of table ≡ size_of first) ⊎ (first.clients ≤ size_of table + count)
    pub keeps : KeepsConnections first table
    pub heap : IsHeap compare_entries entries
    pub order : IsOrder table entries
    pub rest : left + done ≡ total

  pub making_begins : {L : Type 0} (records : L → Entry → L → Type 0) (count now total : ℕ) (table : Table T) (log : L) (entries : List (ℕ × ℕ)) (left : ℕ)
      → total ≡ left → IsHeap compare_entries entries → IsOrder table entries → IsMaking records count now total 0 table table log log entries left
  making_begins records count now total table log entries left is heap order = record {
    number = 0;
    evictions = (refl, refl);
    clients = refl;
    few = inl refl;
    keeps = λ key peer there. (peer, there, refl);
    heap = heap;
    order = order;
    rest = omega (arith, is);
  }

  pub making_continues : {L : Type 0} (records : L → Entry → L → Type 0) (count now total done free : ℕ) (first table next : Table T) (log between after : L)
      (entries rest : List (ℕ × ℕ)) (left less : ℕ) → IsMaking records count now total done first table log between entries left
      → free + size_of table ≡ table.clients → free < count → less + 1 ≡ left → IsHeap compare_entries rest → IsOrder next rest
      → ((next ≡ table) × (after ≡ between)) ⊎ IsEviction records now table next between after
      → IsMaking records count now total (done + 1) first next log after rest less
  making_continues records count now total done free first table next log between after entries rest left less making places short fewer heap order (inl same) = record {
    number = making.number;
    evictions =
        subst (λ t. AreEvictions records making.number now first t log after) (sym same.0)
        (subst (λ l. AreEvictions records making.number now first table log l) (sym same.1) making.evictions);
    clients = ap (λ (t : Table T). t.clients) same.0 ∙ making.clients;
    few = subst (λ t. (size_of t ≡ size_of first) ⊎ (first.clients ≤ size_of t + count)) (sym same.0) making.few;
    keeps = subst (λ t. KeepsConnections first t) (sym same.0) making.keeps;
    heap = heap;
    order = order;
    rest = omega (arith, making.rest, fewer);
  }
  making_continues records count now total done free first table next log between after entries rest left less making places short fewer heap order (inr evicted) = record {
    number = suc making.number;
    evictions = (table, between, making.evictions, evicted);
    clients = evicted.removed.clients ∙ making.clients;
    few = inr (omega (arith, places, short, evicted.removed.size, making.clients));
    keeps = keeps_evicted records now first table next between after making.keeps evicted;
    heap = heap;
    order = order;
    rest = omega (arith, making.rest, fewer);
  }

  -- the places that were found among the keys below a limit
  pub record HasPlacesBelow (table : Table T) (most limit count : ℕ) : Type 0 where
    pub keys : List ℕ
    pub closable : AreClosable table limit keys
    pub few : count ≤ most
    pub enough : count ≤ (table.clients - size_of table) + length keys
    pub exact : count < most → count ≡ (table.clients - size_of table) + length keys
    pub all : (key : ℕ) → key < limit → IsClosable table key → Contains keys key

  closable_below : (table : Table T) (keys : List ℕ) (limit : ℕ) → AreClosable table limit keys → AreClosable table (limit + 1) keys
  closable_below table [] limit are = tt
  closable_below table (key ∷ keys) limit are = (omega (arith, are.0), are.1, are.2)

  pub places_begin : (table : Table T) (most free : ℕ) → free + size_of table ≡ table.clients → HasPlacesBelow table most 0 (min free most)
  places_begin table most free is = record {
    keys = [];
    closable = tt;
    few = omega arith;
    enough = omega (arith, is);
    exact = λ less. omega (arith, is, less);
    all = λ key below closable. absurd (omega (arith, below));
  }

  pub places_skip : (table : Table T) (most limit count : ℕ) → (IsSome (peer_at table limit) → waits Places table limit ≡ true)
      → HasPlacesBelow table most limit count → HasPlacesBelow table most (limit + 1) count
  places_skip table most limit count waiting before = record {
    keys = before.keys;
    closable = closable_below table before.keys limit before.closable;
    few = before.few;
    enough = before.enough;
    exact = before.exact;
    all = λ key below closable. elim (with_limit limit key below) [
      | inl same ↦ absurd (both_ways (waits Places table limit) (ap (waits Places table) (sym same) ∙ closable.1) (waiting (subst (λ k. IsSome (peer_at table k)) same closable.0)))
      | inr less ↦ before.all key less closable
    ];
  }

  pub places_add : (table : Table T) (most limit count : ℕ) → IsClosable table limit → count ≢ most
      → HasPlacesBelow table most limit count → HasPlacesBelow table most (limit + 1) (count + 1)
  places_add table most limit count closable fewer before = record {
    keys = limit ∷ before.keys;
    closable = (omega arith, closable, before.closable);
    few = omega (arith, before.few, fewer);
    enough = omega (arith, before.enough);
    exact = λ less. omega (arith, before.exact (omega (arith, less)), less);
    all = λ key below is. elim (with_limit limit key below) [
      | inl same ↦ (0, omega arith, sym same)
      | inr less ↦ Contains-append_right (limit ∷ []) before.keys key (before.all key less is)
    ];
  }

  -- as many as were asked for
  pub places_most : (table : Table T) (most limit count : ℕ) → count ≡ most → HasPlacesBelow table most limit count → HasPlaces table most count
  places_most table most limit count is before = record {
    limit = limit;
    keys = before.keys;
    closable = before.closable;
    few = before.few;
    enough = before.enough;
    all = λ less. absurd (omega (arith, is, less));
  }

  -- all keys were looked at
  pub places_whole : (table : Table T) (most limit count : ℕ) → length table.peers.slots ≤ limit → HasPlacesBelow table most limit count → HasPlaces table most count
  places_whole table most limit count within before = record {
    limit = limit;
    keys = before.keys;
    closable = before.closable;
    few = before.few;
    enough = before.enough;
    all = λ less. (
      before.exact less,
      λ key is. elim (cases_lt key limit) [
        | inl below ↦ before.all key below is
        | inr over ↦ absurd (no_some (peer_at table key) (past table limit key within over) is.0)
      ],
    );
  }
    where
      no_some : (slot : Option (Peer T)) → slot ≡ None → IsSome slot → ⊥
      no_some None none some = cc
      no_some (Some peer) none some = cc
