-- Answers of a feed that change nothing, and the facts about a piece with new bytes.
use Rattle.std.proofs.Common.{◌≡◌, ◌≢◌, ◌==◌, ◌⊎◌, ◌≤◌, ◌<◌, ◌+◌, ℕ, get_or, Some, Result, Ok, Err}
use Rattle.feed_names.specs.ReleaseName.{Name}
use Rattle.std.proofs.Common.{OnErr, IfSome, IsSomeAnd, inl, inr, refl, sym, ◌∙◌, ap, subst, arith, false, unwrap_or, List, Option, None, length}
use Rattle.std.proofs.lemmas.Bool.{eqb-false}
use Rattle.feed_model.specs.declared.reply.Refusal.{Refusal}
use Rattle.feed_model.specs.declared.reply.Refusal.TheVariants.{Memory, Device, Full}
use Rattle.feed_model.specs.declared.reply.Reply.{Reply}
use Rattle.feed_model.specs.Reply.{max_piece}
use Rattle.feed_model.specs.History.{Event, Answer}
use Rattle.feed_model.specs.Content.{Record, within}
use Rattle.feed_model.specs.Parts.{IsSmall, Reaches}
use Rattle.feed_model.specs.Handles.{Handles}
use Rattle.feed_keep.specs.Cause.{IsCounted}
use Rattle.feed_keep.specs.declared.keep.Keep.{Ghosts}
use Rattle.feed_releases.specs.declared.feed.Feed.{Feed}
use Rattle.feed_releases.specs.declared.standing.Standing.{Standing}
use Rattle.feed_releases.specs.declared.standing.Standing.TheVariants.{Partial, Bad, Good}
use Rattle.feed_releases.specs.Standing.{reply_of}
use Rattle.feed_releases.specs.ReleaseValue.{ReleaseValue, IsActiveAfter, IsPlaceOf, content_of}
use Rattle.feed_releases.proofs.Finding.{none_later}
use Rattle.feed_releases.proofs.Growth.{found_here}
use Rattle.feed_releases.specs.Feeds.{CommitsNothing, IsAnsweredBy, keeper_of, most_of, releases_of, recorded}

-- what holds anyway holds after an error
pub on_err : (a : Answer) (P : Type 0) → P → OnErr a P
on_err (Ok x) P p = tt
on_err (Err e) P p = p

-- with the same releases, and room for as many, the same is recorded
same_recorded : {K : Type 0} {k : Ghosts K} (old new : Feed K k) → releases_of new ≡ releases_of old → most_of new ≡ most_of old → recorded new ≡ recorded old
same_recorded old new same room =
    ap (λ (most : ℕ). within most (content_of (releases_of new))) room ∙ ap (λ (rs : List ReleaseValue). within (most_of old) (content_of rs)) same

-- an answer that changes nothing, and does not report a device failure
pub idle : {K : Type 0} {k : Ghosts K} (old new : Feed K k) (event : Event) (answer : Answer) → keeper_of new ≡ keeper_of old → releases_of new ≡ releases_of old → most_of new ≡ most_of old
    → answer ≢ Err Device → (answer ≡ Err Full → length (releases_of old) ≡ most_of old) → Handles (recorded old) event answer (recorded old) → IsAnsweredBy old new event answer
idle {K} {k} old new event answer keeper same room other full right = record {
  right = subst (Handles (recorded old) event answer) (sym (same_recorded old new same room)) right;
  refused = on_err answer _ same;
  idle = λ _. same;
  full = full;
  room = room;
  clean = λ clean. subst k.clean keeper clean;
  device = record { rises = subst (λ (x : K). k.failed (keeper_of old) ≤ k.failed x) (sym keeper) (omega arith); failed = λ e. absurd (other e); stays = λ _. ap k.failed keeper };
  unloaded = ap k.loads keeper;
}

-- running out of memory and a device failure are not `Full`
not_full : (r : Refusal) → (r ≡ Memory) ⊎ (r ≡ Device) → let a : Answer = Err r in a ≢ Err Full
not_full r (inl is) e = cc
not_full r (inr is) e = cc

-- a refused commit, because memory ran out or the device failed
pub refused_with : {K : Type 0} {k : Ghosts K} (old new : Feed K k) (event : Event) (refusal : Refusal) → releases_of new ≡ releases_of old
    → most_of new ≡ most_of old → (k.clean (keeper_of new) → k.clean (keeper_of old))
    → IsCounted (let a : Answer = Err refusal in a ≡ Err Device) (k.failed (keeper_of old)) (k.failed (keeper_of new)) → k.loads (keeper_of new) ≡ k.loads (keeper_of old)
    → (refusal ≡ Memory) ⊎ (refusal ≡ Device)
    → Handles (recorded old) event (Err refusal) (recorded old) → IsAnsweredBy old new event (Err refusal)
refused_with old new event refusal same room clean counted unloaded fault right =
    record {
      right = subst (Handles (recorded old) event (Err refusal)) (sym (same_recorded old new same room)) right;
      refused = same;
      idle = λ _. same;
      full = λ e. absurd (not_full refusal fault e);
      room = room;
      clean = clean;
      device = counted;
      unloaded = unloaded;
    }

-- an answer that commits
pub taken_in : {K : Type 0} {k : Ghosts K} (old new : Feed K k) (event : Event) (reply : Reply) → most_of new ≡ most_of old → (k.clean (keeper_of new) → k.clean (keeper_of old))
    → IsCounted (let a : Answer = Ok reply in a ≡ Err Device) (k.failed (keeper_of old)) (k.failed (keeper_of new)) → k.loads (keeper_of new) ≡ k.loads (keeper_of old) → ¬ (CommitsNothing (Ok reply))
    → Handles (recorded old) event (Ok reply) (recorded new) → IsAnsweredBy old new event (Ok reply)
taken_in old new event reply room clean counted unloaded commits right =
    record { right = right; refused = tt; idle = λ nothing. absurd (commits nothing); full = λ e. absurd (let e = e in cc); room = room; clean = clean; device = counted; unloaded = unloaded }

-- the answer to new bytes is not one that commits nothing
pub grown_commits : (missing : ℕ) (standing : Standing) → ¬ (CommitsNothing (Ok (reply_of missing standing)))
grown_commits missing Partial nothing = nothing
grown_commits missing (Bad why) nothing = nothing
grown_commits missing (Good holdings) nothing = nothing

-- the only error is running out of memory
pub only_memory : {T : Type 0} (refusal : Refusal) → (let r : Result T Refusal = Err refusal in r ≡ Err Memory) → refusal ≡ Memory
only_memory refusal e = cc

pub memory_not : let a : Answer = Err Memory in a ≢ Err Device
memory_not e = cc

pub memory_not_full : let a : Answer = Err Memory in a ≢ Err Full
memory_not_full e = cc

-- memory ran out, or the device failed
pub refused : (r : Refusal) → (r ≡ Memory) ⊎ (r ≡ Device) → (let a : Answer = Err r in a ≡ Err Memory) ⊎ (let a : Answer = Err r in a ≡ Err Device)
refused r (inl e) = inl (ap Err e)
refused r (inr e) = inr (ap Err e)

-- a piece that has bytes, and not too many
pub small : (bytes : List ℕ) → false ≡ (length bytes == 0) → length bytes ≤ max_piece → IsSmall bytes
small bytes some most = record { some = (let other : length bytes ≢ 0 = eqb-false (length bytes) 0 (sym some) in omega (arith, other)); most = most }

-- if a total is given, it is this size
pub sized : (total : Option ℕ) (size : ℕ) → unwrap_or total size ≡ size → IfSome total (λ t. t ≡ size)
sized None size same = tt
sized (Some t) size same = same

-- another total is given
pub other_size : (total : Option ℕ) (size : ℕ) → unwrap_or total size ≢ size → IsSomeAnd total (λ t. t ≢ size)
other_size None size other = absurd (other refl)
other_size (Some t) size other = other

-- a record that is found is the one that was found before
pub one_record : (o : Option Record) (r x : Record) (P : Record → Type 0) → o ≡ Some r → o ≡ Some x → P r → P x
one_record o r x P first second p = let same : r ≡ x = cc in subst P same p

-- the piece reaches the release at this place
pub reaches : (rs : List ReleaseValue) (n : Name) (at : ℕ) (r : ReleaseValue) (first : ℕ) (total : Option ℕ) (bytes : List ℕ) (size : ℕ)
    → ((k : ℕ) (d : ReleaseValue) → k < length rs → IsActiveAfter n (get_or rs k d) → ⊥) → IsPlaceOf rs n at → r ≡ get_or rs at r → IsSmall bytes → unwrap_or total size ≡ size
    → size ≡ r.kept.size → first + length bytes ≤ size → Reaches (content_of rs) n first total bytes r.kept
reaches rs n at r first total bytes size free place here few given same inside = record {
  small = few;
  free = none_later rs n free;
  found = found_here rs n at r place here;
  sized = subst (λ (s : ℕ). IfSome total (λ t. t ≡ s)) same (sized total size given);
  within = omega (arith, inside, same);
}
