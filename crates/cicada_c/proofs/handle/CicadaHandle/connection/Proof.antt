-- `connection` lends what stands behind the pointer, and the handle follows it. A walk by hand, after `Box::as_mut` of the kit.
use Rattle.std.proofs.Common.{◌≡◌, ℕ, List, [], ◌∷◌, refl}
use seplogic.Ra.Ura.{Ura}
use base.Fraction.{full_share}
use mir.Syntax.{named}
use mir.Raw.{raw as bare}
use mir.Val.{Val, vptr}
use base.Logic.{ent, sep, id⊢}
use base.Fml.{GName, Fml, ftrue, flft, fsep}
use types.Logic.{Logic, sem}
use types.Kit.{‵, ◌⊛◌, some, at_ret, ◌$◌, ◌∵◌, !, qed, move, keep, use1, drop, split, split3, join, pick, rewrite, fsplit, fsplit3, fjoin, fpack, suffices, frame, done, raw, later, await, group}
use types.Part.{whole, sub, look_in}
use types.Run.{stop, fld, load, of_opd, first, blocks, exec, returns, enter, addr}
use types.ByLocal.{alloc_all, pass_all, free_all, look_at, get, through, sets, env, sets_last}
use contract.Running.{tables}
use denote.Exit.{no}
use denote.RattleType.{owns}
use denote.Memory.{part_at, mem, cell_at, part_of, lone}
use denote.RawPtr.{block_ptr}
use denote.Ref.{MutRef, mut_vals, mut_Tells}
use denote.Signature.{plain, mut_ref_to}
use denote.Steps.{nothing, opens}
use denote.Triple.Walked.{says, Stays, stay_dropped, walk_of, ends_at, Goes-spent_ref}
use denote.Follow.{follows, Part, lends_Part}
use Rattle.std.proofs.raw_atomic.Walks.{proved}
use Rattle.std.proofs.VecSteps.Shapes.{after}
use Rattle.cicada_c.proofs.Owning.{word, handle_out, handle_in}
use Rattle.cicada_c.specs.Heap.{heap_token as chunk}
use Rattle.cicada_c.specs.Lending.{with_value}
use Rattle.cicada_c.specs.contracts.handle.CicadaHandle.{the_row as H}
use Rattle.connections.specs.contracts.connection.Connection.{the_row as W}
use Rattle.cicada_c.specs.contracts.handle.CicadaHandle.connection as f
use Rattle.cicada_c.proofs.handle.CicadaHandle.connection.Statement.{statement}
use Rattle.cicada_c.proofs.handle.CicadaHandle.connection.Code as code

abbrev stayed : Stays f.ended.signature.params f.ended.kept
stayed = (stay_dropped (mut_ref_to (0 ∷ []) tt (plain (λ _. H))) no, tt)

module _ {M : Type 1} {𝓤 : Ura M} (𝓛 : Logic 𝓤) (h : H.Denot) (rb ro b o : ℕ) where
  -- all of the handle but what it lends
  abbrev Rest : Fml
  Rest = fsep (chunk (bare (lone W.mir)) (block_ptr b o)) (cell_at full_share H.mir (word b o ∷ []) rb ro)

  back : h.at ≡ block_ptr b o → (w : W.Denot) → ent 𝓤 (sep 𝓤 (sem 𝓛 ((mem W).own_at w b o)) (sem 𝓛 Rest)) (sem 𝓛 ((mem H).own_at (with_value h w) rb ro))
  unfolding part_of
  back at_b w =
      qed 𝓛 (‵ (part_at W full_share w b o) ∷ ‵ Rest ∷ []) ∵ move ! (1 ∷ []) $ fsplit ! $ move ! (2 ∷ 0 ∷ []) $
      handle_in ! (with_value h w) b o at_b $ move ! (1 ∷ 0 ∷ []) $ fjoin ! $
      fpack ! (List Val) (λ us. fsep (cell_at full_share H.mir us rb ro) (H.own_val (with_value h w) us)) (word b o ∷ []) $ done !

pub connection_spec : {M : Type 1} → statement M
connection_spec 𝓤 𝓛 𝓜 𝓡 wired =
    let c = f.clauses 𝓛 𝓜.mem 𝓡.returns in let Wk = walk_of 𝓛 f.ended stayed c in let 𝓣 = tables 𝓤 𝓛.H 𝓜 𝓡 𝓡.env in
    proved 𝓛 f.ended stayed c 𝓜 𝓡 (Goes-spent_ref 𝓛 1 (0 ∷ []) tt (plain (λ _. H)), tt)
    f.Key.name code.function (code.unfolded 𝓤 𝓛.H 𝓜 𝓡 wired)
    (λ κs. (mut_vals, tt)) (λ κs. (mut_Tells (named 0) κs.0 H, tt)) (λ κs qs bounds a n are.
    let κ = κs.0 in let q = qs.0 in let rb = a.0.ref_ptr.0 in let ro = a.0.ref_ptr.1 in let γ = a.0.ghost_name in let h = a.0.now in
    let y : Wk.Ghost = ((κs, qs, bounds, a, (vptr rb ro ∷ [], tt)), tt) in let Post = Wk.post y in let fn = code.function in
    qed 𝓛 (((‵ (flft κ q) ⊛ ‵ ftrue) ⊛ ‵ (owns (MutRef (named 0) κ H ∷ []) a (vptr rb ro ∷ [], tt))) ∷ ‵ ftrue ∷ []) ∵
    split ! $ move ! (2 ∷ []) $ drop ! $ enter ! 𝓣.C 𝓣.Λ fn (vptr rb ro ∷ []) _ $ alloc_all ! (λ l. pass_all ! refl ((tt, tt), tt) $
    let En = env fn.locals l in
    move ! (1 ∷ []) $ fsplit ! $ fsplit3 ! $ drop ! $ move ! (3 ∷ []) $ split ! $ move ! (2 ∷ 3 ∷ 0 ∷ []) $
    opens ! tt H {h = h} rb ro (λ us. move ! (1 ∷ []) $ handle_out ! h us (λ b o e ws.
    move ! (2 ∷ []) $ rewrite ! 0 (λ (vs : List Val). ‵ (cell_at full_share H.mir vs rb ro)) ws refl $
    -- [the cell; what is lent; the right to free it; the open borrow, in three entries]
    first ! $ blocks ! $
    sets ! (of_opd ! (load ! (through ! refl (fld ! refl (stop !))) (look_in ! 0 (sub ! 0 refl (whole !))))) refl (tt, tt) $
    sets ! (of_opd ! (get ! refl)) refl (tt, tt) $
    sets_last ! (addr ! (through ! refl (stop !))) refl (tt, tt) $
    exec ! 𝓣.C 𝓣.Λ En (after 1 fn.body) (at_ret En Post) $
    sets ! (of_opd ! (get ! refl)) refl (tt, tt) $
    move ! (2 ∷ 0 ∷ []) $ fjoin ! $ move ! (2 ∷ 3 ∷ 4 ∷ 1 ∷ 0 ∷ []) $ group ! 5 $
    use1 𝓛 (later (some (λ (γ' : GName). raw (Part 𝓛 H W (with_value h) (named 0) κ q rb ro b o γ (sem 𝓛 (Rest 𝓛 h rb ro b o)) (back 𝓛 h rb ro b o e) h.value γ'))))
    (lends_Part 𝓛 H W (with_value h) (named 0) κ q rb ro b o γ (sem 𝓛 (Rest 𝓛 h rb ro b o)) (back 𝓛 h rb ro b o e) (H.coded.code h) (H.coded.code h) h.value) $ await ! tt $ pick ! (λ γ'.
    returns ! (look_at ! 0 refl) $ free_all ! refl $ keep ! (0 ∷ []) $
    use1 𝓛 (‵ ((MutRef (named 0) κ W).own_val (record { ref_ptr = (b, o); ghost_name = γ'; now = h.value }) (vptr b o ∷ [])) ⊛ ‵ (flft κ q) ⊛ ‵ (follows H W γ γ' (with_value h))) (id⊢ 𝓤 _) $ split3 ! $
    suffices ! _ (ends_at 𝓛 f.ended stayed c y (vptr b o) (record { ref_ptr = (b, o); ghost_name = γ'; now = h.value }) (tt, tt) (tt, tt)) $
    nothing ! $ nothing ! $ fjoin ! $ join ! $ nothing ! $ move ! (2 ∷ 0 ∷ []) $ join ! $ join ! $ frame ! $ says ! refl $ done !)))))
