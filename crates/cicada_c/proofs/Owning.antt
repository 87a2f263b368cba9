-- What a handle owns, taken apart and put together again.
use Rattle.std.proofs.Common.{◌≡◌, ℕ, List, [], ◌∷◌, ◌++◌, refl, sym, ap, subst}
use seplogic.Ra.Ura.{Ura}
use base.Fraction.{full_share}
use mir.Raw.{raw as bare}
use mir.Val.{Val, vptr, vstruct, vcons, vnil, of_list}
use base.Logic.{never, fst∗}
use types.Logic.{Logic, sem}
use types.Kit.{Goal, Item, Seq, Step, step, ‵, ◌$◌, drop, rewrite, fsplit, fjoin, fpick, fpack, feq_l, feq_i}
use denote.Builtin.{RawPtr}
use denote.RattleType.{Valss}
use denote.Memory.{part_at, lone}
use denote.RawPtr.{Ptr, block_ptr, null_ptr, ptr_val, in_a_block}
use denote.Steps.{nothing}
use denote.Struct.Struct.{within}
use denote.Struct.Owning.{shape}
use Rattle.cicada_c.specs.Heap.{heap_token as chunk}
use Rattle.std.specs.Box.Ownership.{box_owns}
use Rattle.cicada_c.specs.contracts.handle.CicadaHandle.{the_row as H, the_type}
use Rattle.connections.specs.contracts.connection.Connection.{the_row as W}

-- a handle as a machine value: its pointer
abbrev pub word : ℕ → ℕ → Val
word b o = vstruct (vcons (vptr b o) vnil)

module _ {M : Type 1} {𝓤 : Ura M} {𝓛 : Logic 𝓤} {K : Type 0} {Γ : List (Item 𝓤)} {G : Goal 𝓤 𝓛.H} where
  pub handle_out : K → (d : H.Denot) (vs : List Val)
      → ((b o : ℕ) → d.at ≡ block_ptr b o → vs ≡ word b o ∷ [] → Seq K 𝓛 (‵ (part_at W full_share d.value b o) ∷ ‵ (chunk (bare (lone W.mir)) (block_ptr b o)) ∷ Γ) G)
      → Seq K 𝓛 (‵ (H.own_val d vs) ∷ Γ) G
  handle_out t d vs k =
      fsplit t $ fpick t (λ vss. fsplit t $ feq_l t (λ ev. fsplit t $ feq_l t (λ ep. drop t $
      in_a_block t d.at (λ p. box_owns chunk W p d.value) (fst∗ 𝓤 (never 𝓤) (sem 𝓛 (chunk (bare (lone W.mir)) null_ptr))) (λ b o e. fsplit t $ k b o e
      (subst (λ (p : Ptr). vs ≡ vstruct (of_list (ptr_val p ∷ [])) ∷ []) e (subst (λ (ps : List Val). vs ≡ vstruct (of_list (ps ++ [])) ∷ []) ep ev))))))

  pub handle_in : K → (d : H.Denot) (b o : ℕ) → d.at ≡ block_ptr b o
      → Step K 𝓛 (‵ (H.own_val d (word b o ∷ [])) ∷ Γ) G (‵ (part_at W full_share d.value b o) ∷ ‵ (chunk (bare (lone W.mir)) (block_ptr b o)) ∷ Γ) G
  handle_in t d b o e = step (λ s.
      fjoin t $ rewrite t 0 (λ (p : Ptr). ‵ (box_owns chunk W p d.value)) (sym e) refl $
      nothing t $ feq_i t (List Val) (vptr b o ∷ []) (ptr_val d.at ∷ []) (ap (λ (p : Ptr). ptr_val p ∷ []) (sym e)) $ fjoin t $
      feq_i t (List Val) (word b o ∷ []) (word b o ∷ []) refl $ fjoin t $
      fpack t (Valss (RawPtr ∷ [])) (within (shape the_type) (d.at, tt) (word b o ∷ [])) (vptr b o ∷ [], tt) $ fjoin t $ s)
