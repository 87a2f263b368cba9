use Rattle.std.proofs.Common.{◌≡◌, ◌<◌, ◌+◌, ℕ, Bool, List, Some, length, subst, sym}
use Rattle.word_layout.specs.Size.{Size, places}
use Rattle.version_search.specs.Finding.{Reads, status_of}
use Rattle.seat_post.specs.Searched.{Finds}
use Rattle.seat_post.proofs.Leaving.{limit_rests, finds_absent, finds_present}
use Rattle.seat_post.proofs.snapshots.load_visible.Goals as goal

pub returns-in-Version-default-default-true-clause-finds : goal.returns-in-Version-default-default-true-clause-finds
returns-in-Version-default-default-true-clause-finds g c =
    let a = c.in-Version-default-default-true in
    let v = c.args.hand.now.view in
    let stamp = c.published_read-stamp.result in
    let inside = subst (λ (z : Size). a.place < places z) (sym c.requires.ready.hand_of.same_size) a.ensures.place in
    let limit = limit_rests v stamp c.requires.resting c.published_read-stamp.ensures in
    finds_absent (stamp + 1) c.args.rid a.place a.wts v c.find.new.hand.view (subst (λ (b : Bool). Reads (stamp + 1) c.args.rid a.place a.wts (status_of b) v c.find.new.hand.view) a.absent-test a.ensures.version) inside limit

pub returns-in-Version-default-default-false-clause-finds : goal.returns-in-Version-default-default-false-clause-finds
returns-in-Version-default-default-false-clause-finds g c =
    let a = c.in-Version-default-default-false in
    let v = c.args.hand.now.view in
    let stamp = c.published_read-stamp.result in
    let inside = subst (λ (z : Size). a.place < places z) (sym c.requires.ready.hand_of.same_size) a.ensures.place in
    let limit = limit_rests v stamp c.requires.resting c.published_read-stamp.ensures in
    let found = subst (λ (b : Bool). Reads (stamp + 1) c.args.rid a.place a.wts (status_of b) v c.find.new.hand.view) a.absent-test a.ensures.version in
    let same : c.new.result ≡ c.load_words.new.words = c.new.ensures in
    let long : length c.load_words.new.words ≡ 32 = c.load_words.ensures.whole in
    subst (λ (cells : List ℕ). Finds c.args.rid a.place a.wts (Some cells) v c.load_words.new.hand.view) (sym same)
    (finds_present (stamp + 1) c.args.rid a.place a.wts c.load_words.new.words v c.find.new.hand.view c.load_words.new.hand.view found c.load_words.ensures.view c.load_words.ensures.left c.load_words.ensures.lost c.load_words.ensures.loads long inside limit)
