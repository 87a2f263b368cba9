-- `boxed` makes the box of what the handle owns. A walk by hand.
use Rattle.std.proofs.Common.{◌≡◌, List, [], ◌∷◌, ◌++◌, refl, sym, ap, subst}
use lib.Dec.{T}
use mir.Syntax.{Dict, Fn, impl, tcons, tnil, dnil}
use mir.Raw.{raw as bare}
use mir.Val.{Val, vptr, has_ty, WT}
use base.Fraction.{full_share}
use base.Logic.{SProp, emp, id⊢}
use base.Fml.{ftrue, flft}
use prog.Wp.{WpFn}
use contract.Monad.{fact, fact_i}
use contract.BorrowLft.{◌⊑◌, ⊑_refl}
use contract.Running.{tables}
use types.Kit.{‵, raw, ◌⊛◌, some, later, at_ret, prop, ◌$◌, ◌∵◌, !, qed, by, move, keep, drop, split, split3, join, regoal, rewrite, fsplit, fjoin, fjoin3, feq_i, pick, use0, use1, await}
use types.Part.{whole, sub}
use types.Run.{stop, fld, of_opd, and_then, no_more, first, blocks, exec, returns, enter}
use types.ByLocal.{alloc_all, pass_all, free_all, look_at, get, get_in, sets, lands_last, is, env}
use denote.Param.{arg, layout}
use denote.Param.Laws.{Laws, arg_laws}
use denote.Param.NoDrop.{glues}
use denote.Exit.{no}
use denote.RattleType.{RattleType, owns}
use denote.RawPtr.{Ptr, block_ptr}
use denote.Signature.{plain}
use denote.Steps.{nothing, only, heard}
use denote.Triple.Clauses.{Lasts, lasts}
use denote.Triple.Entry.{alive}
use denote.Triple.Spec.{triple_of}
use denote.Triple.Call.{calls_at_last}
use denote.Triple.Walked.{Stays, stay_dropped, walk_of, Goes-dropped}
use Rattle.std.proofs.alloc.Calls.{Goes-blank, handle_tells}
use Rattle.std.proofs.VecSteps.Shapes.{after}
use Rattle.std.proofs.raw_atomic.Calls.{fm}
use Rattle.std.proofs.raw_atomic.Walks.{proved_at, leaves}
use Rattle.std.proofs.BoxSteps.Form as box
use Rattle.std.proofs.BoxSteps.Steps.{box_out, box_in}
use Rattle.std.specs.contracts.alloc.Global as heap
use Rattle.std.proofs.alloc.Global.TheLaws as heap_laws
use Rattle.std.specs.contracts.impls.GlobalAllocator.TheImpl.{ghosts, dict}
use Rattle.std.proofs.impls.GlobalAllocator.TheImpl.Met.{passed}
use Rattle.std.specs.contracts.boxed.Box.from_raw as callee
use Rattle.std.proofs.boxed.Box.from_raw.Met.{met}
use Rattle.cicada_c.proofs.Owning.{word, handle_out}
use Rattle.cicada_c.specs.Heap.{heap_token as chunk}
use Rattle.std.specs.Box.Ownership.{box_owns}
use Rattle.cicada_c.specs.contracts.handle.CicadaHandle.{the_row as H}
use Rattle.connections.specs.contracts.connection.Connection.{the_row as W}
use Rattle.connections.proofs.connection.Connection.TheLaws as world
use Rattle.cicada_c.specs.contracts.handle.CicadaHandle.boxed.{ended, clauses}
use Rattle.cicada_c.specs.contracts.handle.CicadaHandle.boxed.Key.{name as #self}
use Rattle.cicada_c.proofs.handle.CicadaHandle.boxed.Statement.{statement}
use Rattle.cicada_c.proofs.handle.CicadaHandle.boxed.Code as code
use Rattle.cicada_c.proofs.Destruct++none.drop.Code as none-drop

-- a connection and the heap's right, as a generic function is passed them
abbrev X : RattleType
X = arg (bare (layout W)) no W

abbrev X-laws : Laws X
X-laws = arg_laws (bare (layout W)) no W world.the_row_laws refl

abbrev Z : RattleType
Z = arg (bare (layout heap.the_row)) no heap.the_row

abbrev Z-laws : Laws Z
Z-laws = arg_laws (bare (layout heap.the_row)) no heap.the_row heap_laws.the_row_laws refl

-- how the heap's right is let go, which is nothing
abbrev drops : Dict
drops = impl ("cicada_c::Destruct++none::drop" ∷ []) (tcons (layout Z) tnil) dnil

-- boxes of connections on the heap
abbrev E : box.Bx
E = record { row = X; laws = X-laws; al = record { row = Z; laws = Z-laws; g = ghosts; d = dict; drops = drops } }

pub boxed_spec : {M : Type 1} → statement M
unfolding none-drop.code
boxed_spec {M = M} 𝓤 𝓛 𝓜 𝓡 wired =
    let c = clauses 𝓛 𝓜.mem 𝓡.returns in let fn : Fn = code.function in let 𝓣 = tables 𝓤 𝓛.H 𝓜 𝓡 𝓡.env in
    let k = triple_of 𝓛 (callee.signature X Z ghosts dict drops) (callee.spec X Z ghosts dict drops 𝓛 𝓜.mem 𝓡.returns) in
    let stays : Stays ended.signature.params ended.kept = (stay_dropped (plain (λ _. H)) ended.kept.0, (stay_dropped (plain (λ _. heap.the_row)) ended.kept.1.0, tt)) in
    proved_at 𝓛 ended stays c 𝓜 𝓡 (Goes-blank 𝓛 0 (plain (λ _. H)) ended.kept.0 (λ κs x f. tt), (Goes-dropped 𝓛 0 (plain (λ _. heap.the_row)) ended.kept.1.0 (λ κs x f. refl), tt)) #self fn
    (code.unfolded 𝓤 𝓛.H 𝓜 𝓡 wired) (λ z are.
    let Post : Val → SProp 𝓤 = (walk_of 𝓛 ended stays c).post z in let h = z.0.3.0 in let a = z.0.3.1.0 in
    qed 𝓛 ((raw (alive 𝓛 ended.signature z.0.0 z.0.1) ⊛ ‵ (owns (H ∷ heap.the_row ∷ []) z.0.3 z.0.4)) ∷ ‵ ftrue ∷ []) ∵ move ! (1 ∷ []) $ drop ! $ split ! $ move ! (1 ∷ []) $ fsplit ! $
    handle_out ! h z.0.4.0 (λ b o e ws. fjoin ! $ rewrite ! 0 (λ (p : Ptr). ‵ (box_owns chunk W p h.value)) (sym e) refl $
    -- [what the handle owned; the heap's right; who is alive]
    move ! (1 ∷ []) $ fsplit ! $ handle_tells E.al ! a z.0.4.1.0 (λ hv eh fa. move ! (1 ∷ []) $ drop ! $
    regoal ! (λ (us : List Val). prop (WpFn 𝓤 𝓛.H 𝓣.C 𝓣.Λ fn us Post)) (λ i. ws i ++ (eh i ++ [])) refl $
    enter ! 𝓣.C 𝓣.Λ fn (word b o ∷ hv ∷ []) Post $ alloc_all ! (λ l. pass_all ! refl ((tt, (tt, tt)), (fa, tt)) $ let Ev = env fn.locals l in
    sets ! (of_opd ! (get_in ! (fld ! refl (stop !)) (sub ! 0 refl (whole !)))) refl (tt, tt) $ first ! $ blocks ! $
    sets ! (of_opd ! (get ! refl)) refl (tt, tt) $
    -- what the call asks for: its lifetimes, which never end, its arguments, and what the pointer owns
    let meets = passed 𝓡.env (code.calls-std_heap::GlobalAllocator::allocate 𝓡.env wired) (code.calls-std_heap::GlobalAllocator::deallocate 𝓡.env wired)
    (code.calls-std_heap::GlobalAllocator::grow 𝓡.env wired) (code.calls-std_heap::GlobalAllocator::shrink 𝓡.env wired) M 𝓤 𝓛 𝓜 𝓡 in
    let glue = glues "cicada_c::Destruct++none::drop" 𝓡.env (code.calls-cicada_c::Destruct++none::drop 𝓡.env wired) Z Z-laws M 𝓤 𝓛 𝓜 𝓡 in
    let y : k.Ghost = ((([], ([], tt)), (full_share, (full_share, tt)), tt, (a, (block_ptr b o, tt)), (hv ∷ [], (vptr b o ∷ [], tt))), h.value) in
    move ! (1 ∷ 0 ∷ []) $ rewrite ! 0 (λ (p : Ptr). ‵ (box_owns chunk W p h.value)) e refl $
    use0 𝓛 (raw (fact 𝓤 ([] ⊑ Z.lives))) (fact_i 𝓤 ([] ⊑ Z.lives) (emp 𝓤) (⊑_refl [])) $ join ! $
    use0 𝓛 (raw (fact 𝓤 ([] ⊑ X.lives))) (fact_i 𝓤 ([] ⊑ X.lives) (emp 𝓤) (⊑_refl [])) $ join ! $
    nothing ! $ feq_i ! (List Val) (vptr b o ∷ []) (vptr b o ∷ []) refl $ move ! (3 ∷ 0 ∷ 1 ∷ []) $ fjoin3 ! $
    nothing ! $ use0 𝓛 (‵ (flft [] full_share)) (𝓛.lfts.lft-nil full_share) $ join ! $ use0 𝓛 (‵ (flft [] full_share)) (𝓛.lfts.lft-nil full_share) $ join ! $
    join ! $ join ! $ use1 𝓛 (raw (k.pre y)) (id⊢ 𝓤 _) $
    calls_at_last ! (fm 𝓛 𝓜 𝓡) k (met 𝓤 𝓛 𝓜 𝓡 (code.calls-std_alloc::boxed::Box::from_raw 𝓡.env wired) X Z X-laws Z-laws ghosts dict drops meets glue) y
    (and_then ! (get ! refl) (and_then ! (get ! refl) (no_more !))) (λ u.
    let B : RattleType = box.B E in let toks = ‵ (flft [] full_share) ⊛ ‵ (flft [] full_share) ⊛ ‵ ftrue in
    use1 𝓛 (later (some (λ (r : B.Denot). (toks ⊛ ‵ (B.own_val r (u ∷ []))) ⊛ some (λ (ls : Lasts (callee.ended X Z ghosts dict drops) y.0.0 y.0.3).
    ‵ (lasts (callee.ended X Z ghosts dict drops) y.0.0 y.0.3 ls) ⊛ (raw (fact 𝓤 (r.value ≡ h.value)) ⊛ raw (fact 𝓤 (r.alloc ≡ a))))))) (id⊢ 𝓤 (k.post y u)) $
    await ! tt $ pick ! (λ r. split ! $ move ! (1 ∷ []) $ pick ! (λ _. split3 ! $ drop ! $ move ! (1 ∷ []) $ drop ! $ heard ! (r.value ≡ h.value) (λ same. split ! $ move ! (1 ∷ []) $
    box_out E ! r (u ∷ []) (λ b' o' hw e' eu fw. box_in E ! r b' o' r.value e' refl $
    let w : Val = box.word E hw b' o' in let typed = box.box_typed E hw b' o' fw in let is_word : u ≡ w = ap only eu in
    lands_last ! refl (subst (λ (v : Val). T (has_ty (box.box_ty E) v) × WT v) (sym is_word) typed) $
    exec ! 𝓣.C 𝓣.Λ Ev (after 2 fn.body) (at_ret Ev Post) $ sets ! (is ! (of_opd ! (get ! refl)) is_word) refl typed $
    use0 𝓛 (raw (fact 𝓤 (r.value ≡ h.value))) (fact_i 𝓤 (r.value ≡ h.value) (emp 𝓤) same) $ nothing ! $ nothing ! $ fjoin ! $ nothing ! $ fjoin ! $
    returns ! (look_at ! 0 refl) $ free_all ! refl $ keep ! (4 ∷ 0 ∷ 2 ∷ 1 ∷ []) $ by ! (leaves 𝓛 ended stays c z w r (tt, (tt, tt)) (tt, (tt, tt))))))))))))
