-- Adding a piece to a release: the commit is allowed, and the answer is right.
use Rattle.std.proofs.Common.{◌≡◌, ◌≢◌, ℕ, List, Option, Ok, Some, get_or, set, refl, sym, ◌∙◌, ap, subst}
use Rattle.feed_names.specs.ReleaseName.{Name}
use Rattle.feed_model.specs.declared.reply.Reply.{Reply}
use Rattle.feed_model.specs.declared.reply.Reply.TheVariants.{Activated}
use Rattle.feed_model.specs.History.{Piece}
use Rattle.feed_model.specs.Reply.{missing_below}
use Rattle.feed_model.specs.Content.{Part, Record, Content, byte_in, record_of, within}
use Rattle.feed_model.specs.Change.{after, changed, merged, without_earlier, IsAllowedWithin, NoneIsLater, TakesParts}
use Rattle.feed_model.specs.Parts.{Adds, Reaches}
use Rattle.feed_model.specs.Handles.{Handles}
use Rattle.feed_model.proofs.Keeps.{completes_by}
use Rattle.feed_model.proofs.Arrivals.{piece_stored, piece_broken, piece_activated}
use Rattle.feed_releases.specs.declared.release.Overlap.TheVariants.{New}
use Rattle.feed_releases.specs.declared.release.growth.Growth.{Growth}
use Rattle.feed_releases.specs.declared.standing.Standing.{Standing}
use Rattle.feed_releases.specs.declared.standing.Standing.TheVariants.{Partial, Bad, Good}
use Rattle.feed_releases.specs.ReleaseValue.{ReleaseValue, IsOverlapOf, IsPlaceOf, content_of}
use Rattle.feed_releases.specs.Standing.{IsStandingOf, change_to, reply_of, record_after}
use Rattle.feed_releases.specs.Growth.{IsGrowth, change_of, parts_of}
use Rattle.feed_releases.proofs.Growth.{found_here, name_at, one_at, record_after_at}

right_so : {most : ℕ} (c : Content) (n : Name) (first : ℕ) (total : Option ℕ) (bytes : List ℕ) (r : Record) (ps : List Part) (missing : ℕ) (s : Standing) → Reaches c n first total bytes r
    → IsOverlapOf r first bytes New
    → Adds r.size r.parts first bytes ps → missing ≡ missing_below (byte_in (merged r.parts ps)) r.size → IsStandingOf r.size (merged r.parts ps) missing s
    → Handles (within most c) (Piece n first total bytes)
    (Ok (reply_of missing s)) (within most (after (change_to s n ps) c))
right_so c n first total bytes r ps missing Partial reach lies adds count so = piece_stored c n first total bytes r ps missing reach lies.2 lies.0 lies.1 adds count so
right_so c n first total bytes r ps missing (Bad why) reach lies adds count so =
    piece_broken c n first total bytes r ps so.1.0 why reach lies.2 lies.0 lies.1 adds (sym count ∙ so.0) so.1.1.count so.1.1.bytes so.1.2
right_so c n first total bytes r ps missing (Good holdings) reach lies adds count so =
    piece_activated c n first total bytes r ps so.1.0 reach lies.2 lies.0 lies.1 adds (sym count ∙ so.0) so.1.1.count so.1.1.bytes so.1.2

-- the answer is right
pub growth_right : {most : ℕ} (c : Content) (n : Name) (first : ℕ) (total : Option ℕ) (bytes : List ℕ) (r : Record) (growth : Growth) → r.name ≡ n → Reaches c n first total bytes r
    → IsOverlapOf r first bytes New → IsGrowth r first bytes growth
    → Handles (within most c) (Piece n first total bytes) (Ok (reply_of growth.missing growth.standing)) (within most (after (change_of r growth) c))
growth_right c n first total bytes r growth name reach lies is =
    rw name (right_so c n first total bytes r (parts_of growth) growth.missing growth.standing reach lies is.adds is.missing is.stands)

allowed_so : (most : ℕ) (c : Content) (n : Name) (r : Record) (ps : List Part) (missing : ℕ) (s : Standing) → TakesParts c n ps r → NoneIsLater c n
    → missing ≡ missing_below (byte_in (merged r.parts ps)) r.size → IsStandingOf r.size (merged r.parts ps) missing s → IsAllowedWithin most (change_to s n ps) c
allowed_so most c n r ps missing Partial takes free count so = (r, takes)
allowed_so most c n r ps missing (Bad why) takes free count so = (r, takes, completes_by r ps (sym count ∙ so.0), so.1)
allowed_so most c n r ps missing (Good holdings) takes free count so = (r, takes, completes_by r ps (sym count ∙ so.0), free)

-- the change is one that the keeper allows
pub growth_allowed : (most : ℕ) (c : Content) (n : Name) (first : ℕ) (total : Option ℕ) (bytes : List ℕ) (r : Record) (growth : Growth) → r.name ≡ n → Reaches c n first total bytes r
    → IsOverlapOf r first bytes New → IsGrowth r first bytes growth → IsAllowedWithin most (change_of r growth) c
growth_allowed most c n first total bytes r growth name reach lies is =
    let takes : TakesParts c n (parts_of growth) r = record {
      found = reach.found;
      staged = is.staged;
      some = is.some;
      parts = is.adds.order.parts;
      apart = is.adds.whole.parts;
      inside = is.adds.order.inside;
    } in
    rw name (allowed_so most c n r (parts_of growth) growth.missing growth.standing takes reach.free is.missing is.stands)

-- a release that is activated takes the place of the earlier ones, and only that one
pub after_activated : (n : Name) (r : Record) (growth : Growth) (c : Content) → r.name ≡ n → reply_of growth.missing growth.standing ≡ Activated
    → after (change_of r growth) c ≡ without_earlier n (changed n (record_after (parts_of growth) growth.standing) c)
after_activated n r growth c name e = rw name (by growth.standing e)
  where
    by : (s : Standing) → reply_of growth.missing s ≡ Activated → after (change_to s n (parts_of growth)) c ≡ without_earlier n (changed n (record_after (parts_of growth) s) c)
    by Partial e = absurd (cc)
    by (Bad why) e = absurd (cc)
    by (Good holdings) e = refl

pub after_kept : (n : Name) (r : Record) (growth : Growth) (c : Content) → r.name ≡ n → reply_of growth.missing growth.standing ≢ Activated
    → after (change_of r growth) c ≡ changed n (record_after (parts_of growth) growth.standing) c
after_kept n r growth c name not = rw name (by growth.standing not)
  where
    by : (s : Standing) → reply_of growth.missing s ≢ Activated → after (change_to s n (parts_of growth)) c ≡ changed n (record_after (parts_of growth) s) c
    by Partial not = refl
    by (Bad why) not = refl
    by (Good holdings) not = absurd (not refl)

-- the releases in memory after the change, with an activated release and without one
pub taken_activated : (rs now : List ReleaseValue) (n : Name) (at : ℕ) (r x : ReleaseValue) (growth : Growth) (reply : Reply) → IsPlaceOf rs n at → r ≡ get_or rs at r
    → x.kept ≡ record_after (parts_of growth) growth.standing r.kept → reply ≡ reply_of growth.missing growth.standing → reply ≡ Activated
    → content_of now ≡ without_earlier n (content_of (set rs at x)) → content_of now ≡ after (change_of r.kept growth) (content_of rs)
taken_activated rs now n at r x growth reply place here taken is activated dropped =
    dropped ∙ ap (without_earlier n) (record_after_at rs n at r x (parts_of growth) growth.standing place here taken)
    ∙ sym (after_activated n r.kept growth (content_of rs) (name_at rs n at r place here) (sym is ∙ activated))

pub taken_kept : (rs : List ReleaseValue) (n : Name) (at : ℕ) (r x : ReleaseValue) (growth : Growth) (reply : Reply) → IsPlaceOf rs n at → r ≡ get_or rs at r
    → x.kept ≡ record_after (parts_of growth) growth.standing r.kept → reply ≡ reply_of growth.missing growth.standing → reply ≢ Activated
    → content_of (set rs at x) ≡ after (change_of r.kept growth) (content_of rs)
taken_kept rs n at r x growth reply place here taken is other =
    record_after_at rs n at r x (parts_of growth) growth.standing place here taken
    ∙ sym (after_kept n r.kept growth (content_of rs) (name_at rs n at r place here) (λ e. other (is ∙ e)))

-- the answer to a piece whose new bytes are stored: they were prepared for the release that is read again here
pub grown_right : {most : ℕ} (rs : List ReleaseValue) (now : Content) (n : Name) (at : ℕ) (first : ℕ) (total : Option ℕ) (bytes : List ℕ) (x r : ReleaseValue) (growth : Growth) → IsPlaceOf rs n at
    → x ≡ get_or rs at x → r ≡ get_or rs at r → ((k : Record) → record_of (content_of rs) n ≡ Some k → Reaches (content_of rs) n first total bytes k)
    → ((k : Record) → record_of (content_of rs) n ≡ Some k → IsOverlapOf k first bytes New) → IsGrowth x.kept first bytes growth
    → now ≡ after (change_of r.kept growth) (content_of rs)
    → Handles (within most (content_of rs)) (Piece n first total bytes) (Ok (reply_of growth.missing growth.standing)) (within most now)
grown_right rs now n at first total bytes x r growth place there here reaches new is content =
    let found = found_here rs n at r place here in
    let same = one_at rs at x r place.within there here in
    rw content (growth_right (content_of rs) n first total bytes r.kept growth (name_at rs n at r place here) (reaches r.kept found) (new r.kept found)
    (subst (λ (y : ReleaseValue). IsGrowth y.kept first bytes growth) same is))
