-- Connections that are made one after another, from the last pass on.
use Rattle.std.proofs.Common.{◌≡◌, ℕ, ◌-◌, List, [], ◌∷◌, ◌++◌, reverse, take, sym, ap, subst, ◌∙◌, append_assoc}
use Rattle.std.proofs.lemmas.List.{append-nil, reverse-append}
use Rattle.txn_engine.specs.Pass.{EngineView, PassView}
use Rattle.connections.specs.Connection.{ConnectionView}
use Rattle.connections.specs.Opening.{AreConnected, IsConnected}

-- one pass more at the end, with its connection
connected_push : (e : EngineView) (ps : List PassView) (cs : List ConnectionView) (p : PassView) (c : ConnectionView) → AreConnected e ps cs → IsConnected e p c → AreConnected e (ps ++ p ∷ []) (cs ++ c ∷ [])
connected_push e [] [] p c all is = (is, tt)
connected_push e [] (d ∷ cs) p c all is = absurd all
connected_push e (q ∷ ps) [] p c all is = absurd all
connected_push e (q ∷ ps) (d ∷ cs) p c all is = (all.0, connected_push e ps cs p c all.1 is)

-- so the last of those that are left has its connection, before those of the passes behind it
pub connected_more : (e : EngineView) (all before rest : List PassView) (p : PassView) (done done' : List ConnectionView) (c : ConnectionView) → ((cs : List ConnectionView) → AreConnected e before cs → AreConnected e all (cs ++ reverse done))
    → before ≡ rest ++ p ∷ [] → done' ≡ done ++ c ∷ [] → IsConnected e p c → (cs : List ConnectionView) → AreConnected e rest cs → AreConnected e all (cs ++ reverse done')
connected_more e all before rest p done done' c so_far split more is cs connected =
    let with_last : AreConnected e before (cs ++ c ∷ []) = subst (λ (ps : List PassView). AreConnected e ps (cs ++ c ∷ [])) (sym split) (connected_push e rest cs p c connected is) in
    let order : (cs ++ c ∷ []) ++ reverse done ≡ cs ++ reverse done' = append_assoc cs (c ∷ []) (reverse done) ∙ ap (λ (ds : List ConnectionView). cs ++ ds) (sym (reverse-append done (c ∷ [])) ∙ ap reverse (sym more)) in
    subst (λ (ds : List ConnectionView). AreConnected e all ds) order (so_far (cs ++ c ∷ []) with_last)

-- at first none has
pub connected_none : (e : EngineView) (all : List PassView) (cs : List ConnectionView) → AreConnected e all cs → AreConnected e all (cs ++ [])
connected_none e all cs connected = subst (λ (ds : List ConnectionView). AreConnected e all ds) (sym (append-nil cs)) connected

-- behind the first pass all have
pub connected_all : (e : EngineView) (all rest : List PassView) (done now : List ConnectionView) → ((cs : List ConnectionView) → AreConnected e rest cs → AreConnected e all (cs ++ reverse done)) → rest ≡ [] → now ≡ reverse done → AreConnected e all now
connected_all e all rest done now so_far none is = subst (λ (ds : List ConnectionView). AreConnected e all ds) (sym is) (so_far [] (subst (λ (ps : List PassView). AreConnected e ps []) (sym none) tt))

-- where no last one comes, none is left
pub none_left : {A : Type 0} (xs ys : List A) (long : ℕ) → xs ≡ ys ++ [] → ys ≡ take (long - 1) xs → long ≡ 0 → xs ≡ []
none_left xs ys long all rest none = all ∙ append-nil ys ∙ rest ∙ ap (λ (n : ℕ). take (n - 1) xs) none
