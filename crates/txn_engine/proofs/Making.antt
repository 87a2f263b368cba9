-- The seats that are made, and their passes.
use Rattle.std.proofs.Common.{◌≡◌, ℕ, ◌+◌, ◌-◌, ◌≤◌, Bool, true, false, cond, ltb, ltb-false, lt-ltb, List, [], ◌∷◌, ◌++◌, refl, sym, ap, subst, ◌∙◌, arith, length, map, inl, inr, All}
use Rattle.std.specs.List.{range_with_len}
use mathlib.Core.List.{map-append}
use Rattle.std.proofs.lemmas.List.{length-map}
use Rattle.std.proofs.lemmas.List.Elements.{All-nil, All-cons}
use Rattle.std.proofs.lemmas.List.FromFn.{map-range_with_len_more, length-map-range_with_len}
use Rattle.core_rule.specs.View.{single, sharing}
use Rattle.core_rule.specs.Views.{Among}
use Rattle.core_rule.specs.Offers.{MayOffer, made_of}
use Rattle.txn_engine.specs.Pass.{PassView, IsIdle, IsIdleOf, with_snapshot, bare, engine_of, desk_of}
use Rattle.seat_post.specs.Seats.{Others}
use Rattle.seat_post.specs.Sharing.{no_bounds, one_more}
use Rattle.txn_engine.specs.Sharing.{others_made, with_made, share_at, first_share, announced, shares, shares_of}

-- ---- making seats

made_plain : (b : Bool) (o : Others) (made : ℕ) → o.splitting ≡ single → 1 ≤ made → (b ≡ false → made ≡ 1) → MayOffer (cond b (record o { splitting = sharing made }) o).splitting × (made_of (cond b (record o { splitting = sharing made }) o).splitting ≡ made)
made_plain true o made plain some is = (tt, refl)
made_plain false o made plain some is = rw plain (tt, sym (is refl))

first_made : (made : ℕ) → 1 ≤ made → ltb 1 made ≡ false → made ≡ 1
first_made made some off = let h = ltb-false 1 made off in omega arith

-- the seat that has made these may make the next one
pub may_make : (made : ℕ) (o : Others) → 1 ≤ made → o.splitting ≡ single → MayOffer (others_made made o).splitting × (made_of (others_made made o).splitting ≡ made)
may_make made o some plain = made_plain (ltb 1 made) o made plain some (first_made made some)

others_over : (b : Bool) (o : Others) (s t : ℕ) → record (cond b (record o { splitting = sharing s }) o) { splitting = sharing t } ≡ record o { splitting = sharing t }
others_over true o s t = refl
others_over false o s t = refl

-- it has made one more
pub made_more : (made : ℕ) (p : PassView) → 1 ≤ made → p.others.splitting ≡ single → record p { post = one_more (with_made made p).post } ≡ with_made (made + 1) p
made_more made p some plain =
    let on : ltb 1 (made + 1) ≡ true = lt-ltb 1 (made + 1) (omega arith) in
    ap (λ (o : Others). record p { post = record p.post { others = o; bounds = no_bounds; placed = [] } }) (ap (λ (n : ℕ). record (others_made made p.others) { splitting = sharing (n + 1) }) ((may_make made p.others some plain).1) ∙ others_over (ltb 1 made) p.others made (made + 1))
    ∙ ap (λ (b : Bool). record p { post = record p.post { others = cond b (record p.others { splitting = sharing (made + 1) }) p.others; bounds = cond b no_bounds p.bounds; placed = cond b [] p.placed } }) (sym on)

-- one more pass is there
pub pushed_share : (p : PassView) (passes passes' : List PassView) (seat : ℕ) (made : PassView) → 1 ≤ seat → map bare passes ≡ map (share_at p) (range_with_len 1 (seat - 1)) → bare made ≡ share_at p seat → passes' ≡ passes ++ made ∷ [] → map bare passes' ≡ map (share_at p) (range_with_len 1 (seat + 1 - 1))
pushed_share p passes passes' seat made some are is more =
    let last : 1 + (seat - 1) ≡ seat = omega arith in
    let count : seat - 1 + 1 ≡ seat + 1 - 1 = omega arith in
    ap (map bare) more ∙ map-append bare passes (made ∷ []) ∙ ap (λ qs. qs ++ bare made ∷ []) are ∙ ap (λ q. map (share_at p) (range_with_len 1 (seat - 1)) ++ q ∷ []) is
    ∙ sym (map-range_with_len_more (share_at p) 1 (seat - 1) seat last)
    ∙ ap (λ n. map (share_at p) (range_with_len 1 n)) count

among_bare : (passes : List PassView) (q : PassView) → Among q passes → Among (bare q) (map bare passes)
among_bare [] q among = absurd among
among_bare (x ∷ xs) q (inl same) = inl (ap bare same)
among_bare (x ∷ xs) q (inr more) = inr (among_bare xs q more)

-- a number of each pass that is the one of seat 0
module _ (f : PassView → ℕ) (p : PassView) (each : (seat : ℕ) → f (share_at p seat) ≡ f p) (first : f (first_share p) ≡ f p) (unbared : (q : PassView) → f (bare q) ≡ f q) where
  kept_of : (xs : List ℕ) (q : PassView) → Among q (map (share_at p) xs) → f q ≡ f p
  kept_of [] q among = absurd among
  kept_of (x ∷ xs) q (inl same) = ap f (sym same) ∙ each x
  kept_of (x ∷ xs) q (inr more) = kept_of xs q more

  kept_among : (q : PassView) → Among q (shares_of p) → f q ≡ f p
  kept_among q (inl same) = ap f (sym same) ∙ first
  kept_among q (inr more) = kept_of (range_with_len 1 (p.shared.size.seats - 1)) q more

  kept_shared : (q : PassView) (passes : List PassView) → map bare passes ≡ shares_of p → Among q passes → f q ≡ f p
  kept_shared q passes are among = sym (unbared q) ∙ kept_among (bare q) (subst (λ xs. Among (bare q) xs) are (among_bare passes q among))

-- each pass has met what seat 0 has met, and has published what it has
pub met_shared : (p q : PassView) (passes : List PassView) → map bare passes ≡ shares_of p → Among q passes → q.met ≡ p.met
met_shared p = kept_shared (λ (y : PassView). y.met) p (λ seat. refl) refl (λ q. refl)

pub published_shared : (p q : PassView) (passes : List PassView) → map bare passes ≡ shares_of p → Among q passes → q.published ≡ p.published
published_shared p = kept_shared (λ (y : PassView). y.published) p (λ seat. refl) refl (λ q. refl)

-- the pass that is made for the next seat
pub next_share : (p q r : PassView) (made : ℕ) → 1 ≤ made → p.others.splitting ≡ single → q ≡ with_snapshot (with_made made p) q.snapshot → bare r ≡ share_at q (made_of q.others.splitting) → bare r ≡ share_at p made
next_share p q r made some plain are is =
    is ∙ ap (λ (x : PassView). share_at x (made_of x.others.splitting)) are ∙ ap (share_at p) (may_make made p.others some plain).1

pub next_made : (p q r : PassView) (made : ℕ) → 1 ≤ made → p.others.splitting ≡ single → q ≡ with_snapshot (with_made made p) q.snapshot → r ≡ record q { post = record (one_more q.post) { snapshot = r.snapshot } } → r ≡ with_snapshot (with_made (made + 1) p) r.snapshot
next_made p q r made some plain are is =
    is ∙ ap (λ (x : PassView). record x { post = record (one_more x.post) { snapshot = r.snapshot } }) are ∙ ap (λ (x : PassView). with_snapshot x r.snapshot) (made_more made p some plain)

pub count_shares : (p : PassView) (passes : List PassView) (seat : ℕ) → map bare passes ≡ map (share_at p) (range_with_len 1 (seat - 1)) → length passes ≡ seat - 1
count_shares p passes seat are = sym (length-map passes bare) ∙ ap length are ∙ length-map-range_with_len (share_at p) 1 (seat - 1)

others_are_idle : (p : PassView) (xs : List PassView) (seats : List ℕ) → map bare xs ≡ map (share_at p) seats → All (IsIdleOf (engine_of p)) xs
others_are_idle p [] seats is = All-nil (IsIdleOf (engine_of p))
others_are_idle p (x ∷ xs) [] is = cc
others_are_idle p (x ∷ xs) (seat ∷ seats) is =
    let head : bare x ≡ share_at p seat = cc in
    let tail : map bare xs ≡ map (share_at p) seats = cc in
    All-cons (IsIdleOf (engine_of p)) x xs (ap engine_of head, ap desk_of head) (others_are_idle p xs seats tail)

-- each is of the engine, with nothing in flight
pub shares_are_idle : (p : PassView) (xs : List PassView) → IsIdle p → map bare xs ≡ shares p → All (IsIdleOf (engine_of p)) xs
shares_are_idle p [] idle is = All-nil (IsIdleOf (engine_of p))
shares_are_idle p (x ∷ xs) idle is =
    let head : bare x ≡ first_share (announced p) = cc in
    let seats = range_with_len 1 (p.shared.size.seats - 1) in
    let tail : map bare xs ≡ map (share_at (announced p)) seats = cc in
    All-cons (IsIdleOf (engine_of p)) x xs (ap engine_of head, ap desk_of head ∙ idle) (others_are_idle (announced p) xs seats tail)
