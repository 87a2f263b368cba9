-- What a root that is parted writes and is given: two new records, the left node, the right one, and the root over both.
use Rattle.std.proofs.Common.{◌≡◌, ℕ, Contains}
use Rattle.record_store.specs.Meaning.{Meaning, after_fresh}
use Rattle.record_store.proofs.Known.{Tries, Goes, given_on, fresh-given, goes-fresh, goes-given, goes-tried, goes-trans}

module _ (May : ℕ → Type 0) (m0 m1 m2 m3 : Meaning) (left right : ℕ) (first : m1 ≡ after_fresh m0 left) (second : m2 ≡ after_fresh m1 right) (one : Tries left m2 m3) where
  left_given : Contains m2.given left
  left_given = given_on 1 m1 m2 left (goes-fresh May m1 m2 right second).given (fresh-given m0 m1 left first)

  right_given : Contains m3.given right
  right_given = given_on 0 m2 m3 right one.given (fresh-given m1 m2 right second)

  pub left_goes : Goes 2 May m0 m3
  left_goes = goes-trans 2 0 May m0 m2 m3 (goes-trans 1 1 May m0 m1 m2 (goes-fresh May m0 m1 left first) (goes-fresh May m1 m2 right second)) (goes-given May m2 m3 left left_given one)

  module _ (m4 : Meaning) (two : Tries right m3 m4) where
    pub right_goes : Goes 2 May m0 m4
    right_goes = goes-trans 2 0 May m0 m3 m4 left_goes (goes-given May m3 m4 right right_given two)

    module _ (m5 : Meaning) (at : ℕ) (may : May at) (three : Tries at m4 m5) where
      pub over_goes : Goes 2 May m0 m5
      over_goes = goes-trans 2 0 May m0 m4 m5 right_goes (goes-tried May m4 m5 at three may)
