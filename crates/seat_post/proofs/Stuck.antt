-- Where one of the writes of a transaction found no place.
use Rattle.std.proofs.Common.{◌≡◌, ℕ, suc, List, [], ◌∷◌, ◌++◌, Option, take, sym, ap, ◌∙◌}
use Rattle.word_layout.specs.Size.{Size}
use Rattle.core_rule.specs.View.{View, Write, Seen}
use Rattle.core_rule.specs.Deciding.{written_values, value_of}
use Rattle.validate_core.specs.Sets.{SetsView, Turn}
use Rattle.validate_core.specs.Installing.{FindsNoPlace}
use Rattle.validate_core.proofs.Placing.{each_grows}
use Rattle.version_pool.specs.Takes.{first_in_turn}
use Rattle.seat_post.specs.Observing.{MeetsNoPlace}
use Rattle.seat_post.specs.Placing.{TriesAll}
use Rattle.seat_post.specs.Seats.{observed_of}
use Rattle.seat_post.proofs.Linked.{written_values-take}
use Rattle.seat_post.proofs.Listed.{written_values-append}
use Rattle.seat_post.proofs.Observed.{lost_before}

-- the write of a number, behind those before it
pub next_written : (n : ℕ) (us : List Write) (writes : List (ℕ × Option (List ℕ))) (u : Write) → Turn n us u → written_values us ≡ writes → take (suc n) writes ≡ take n writes ++ (u.record_number, value_of u.cells) ∷ []
next_written n us writes u turn values =
    sym (written_values-take (suc n) us ∙ ap (take (suc n)) values) ∙ ap written_values turn.next ∙ written_values-append (take n us) u
    ∙ ap (λ ws. ws ++ (u.record_number, value_of u.cells) ∷ []) (written_values-take n us ∙ ap (take n) values)

-- exchanges were lost behind those before it, and nothing else was come upon
pub finds_none : (z : Size) (s : SetsView) (v w : View) (f : FindsNoPlace z s v w) → TriesAll z f.write.record_number (observed_of f.installed) (observed_of w)
finds_none z s v w f = record {
  first = first_in_turn z f.installed.places.last_pool;
  met = f.none.lost;
  not_free = f.none.not_free;
  after = ap (λ (x : Seen). record { loads = x.loads; lost = x.lost }) f.seen ∙ ap observed_of f.none.view;
}

pub meets_none : (z : Size) (s : SetsView) (v w : View) (f : FindsNoPlace z s v w) → MeetsNoPlace z f.write.record_number (record { loads = v.seen.loads; lost = v.seen.lost }) (record { loads = w.seen.loads; lost = w.seen.lost })
meets_none z s v w f =
    let before = each_grows z v.published.write _ v f.installed f.each in record {
      inline_met = lost_before f.write.record_number v f.installed f.searched w before f.inline_met f.seen;
      usable_met = λ p usable. lost_before p v f.installed f.searched w before (f.usable_met p usable) f.seen;
    }
