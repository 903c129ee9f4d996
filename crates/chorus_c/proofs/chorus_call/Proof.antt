-- What lies at the two pointers is lent to safe code for a lifetime of its own, and lies there again.
use types.Logic.{sem}
use Rattle.std.proofs.Common.{◌≡◌, ℕ, List, [], ◌∷◌, ◌++◌, refl, sym, ap, ◌∙◌, subst, w32, MutBor}
use base.Fraction.{full_share}
use mir.Syntax.{Fn, named}
use mir.Val.{Val, vptr}
use base.Logic.{SProp, ent, sep, emp, ex, ex_i, id⊢}
use base.Fml.{Lft, ftrue, flft, flent}
use prog.Wp.{WpFn}
use types.SemTy.{Body}
use types.Tokens.{lft_new, lft_end}
use contract.Monad.{fact, fact_i}
use contract.Running.{tables}
use types.Kit.{‵, raw, ◌⊛◌, some, later, at_ret, ◌$◌, ◌∵◌, !, qed, by, move, keep, drop, use0, use1, use3, split, join, pick, fsplit, fjoin, fjoin3, feq_l, rewrite, suffices, await}
use types.Run.{of_opd, exec, addr, stop, and_then, no_more, first, blocks, returns, enter}
use types.ByLocal.{alloc_all, pass_all, free_all, look_at, get, through, sets, sets_last, lands_as, env}
use denote.Exit.{yes}
use denote.RattleType.{owns}
use denote.Laws.{Is, shows}
use denote.Plain.{uint_Lawful}
use denote.Builtin.{u32, RawPtr}
use denote.Memory.{mem, part_at}
use denote.RawPtr.{Ptr, ptr_val, in_a_block, lies_at}
use denote.Ref.{MutRef}
use denote.Lend.{lends_ref, ref_back}
use denote.Signature.{plain}
use denote.Steps.{peeks, heard, nothing}
use denote.Triple.Call.{calls_at}
use denote.Triple.Clauses.{lasts}
use denote.Triple.Spec.{triple_of}
use denote.Triple.Table.{framed}
use denote.Triple.Walked.{Stays, stay_dropped, walk_of, Goes-dropped}
use Rattle.std.proofs.VecSteps.Shapes.{after}
use sound.WpLaws.{FmC}
use Rattle.std.proofs.raw_atomic.Walks.{proved_at, leaves}
use Rattle.chorus_c.specs.contracts.handle.Handle.{the_row as X}
use Rattle.chorus_c.specs.contracts.exchange.Exchange.{the_row as Y}
use Rattle.chorus_c.specs.Serving.{Served}
use Rattle.chorus_c.specs.contracts.serving.serve as p
use Rattle.chorus_c.proofs.serving.serve.Met.{met}
use Rattle.chorus_c.specs.contracts.chorus_call as f
use Rattle.chorus_c.specs.contracts.chorus_call.Key.{name as #self}
use Rattle.chorus_c.proofs.chorus_call.Statement.{statement}
use Rattle.chorus_c.proofs.chorus_call.Code as code

abbrev hs : Stays f.ended.signature.params f.ended.kept
hs = (stay_dropped (plain (λ _. RawPtr)) yes, (stay_dropped (plain (λ _. RawPtr)) yes, tt))

pub chorus_call_spec : {M : Type 1} → statement M
chorus_call_spec 𝓤 𝓛 𝓜 𝓡 wired =
    let H = 𝓛.H in let 𝓣 = tables 𝓤 H 𝓜 𝓡 𝓡.env in let c = f.clauses 𝓛 𝓜.mem 𝓡.returns in let fn : Fn = code.function in
    let G = triple_of 𝓛 p.signature (p.spec 𝓛 𝓜.mem 𝓡.returns) in let fm : FmC 𝓤 H 𝓛.laws 𝓣.C = λ g. framed 𝓤 H 𝓜 𝓣 g in
    proved_at 𝓛 f.ended hs c 𝓜 𝓡 (Goes-dropped 𝓛 0 (plain (λ _. RawPtr)) yes (λ κs x w. refl), (Goes-dropped 𝓛 0 (plain (λ _. RawPtr)) yes (λ κs x w. refl), tt))
    #self fn (code.unfolded 𝓤 H 𝓜 𝓡 wired) (λ z are.
    let Post : Val → SProp 𝓤 = (walk_of 𝓛 f.ended hs c).post z in let Run : List Val → SProp 𝓤 = λ ws. WpFn 𝓤 H 𝓣.C 𝓣.Λ fn ws Post in
    let at : Ptr = z.0.3.0 in let to : Ptr = z.0.3.1.0 in let xs : X.Denot = z.1.0 in let ys : Y.Denot = z.1.1 in
    qed 𝓛 ((‵ ftrue ⊛ ‵ (owns (RawPtr ∷ RawPtr ∷ []) z.0.3 z.0.4)) ∷ (‵ (lies_at X full_share at xs) ⊛ ‵ (lies_at Y full_share to ys)) ∷ []) ∵
    split ! $ drop ! $ fsplit ! $ feq_l ! (λ ev. fsplit ! $ feq_l ! (λ ew. drop ! $ split ! $
    in_a_block ! at (λ q. lies_at X full_share q xs) (id⊢ 𝓤 _) (λ b o e. move ! (1 ∷ []) $
    in_a_block ! to (λ q. lies_at Y full_share q ys) (id⊢ 𝓤 _) (λ b' o' e'. move ! (1 ∷ []) $
    let args : List Val = vptr b o ∷ vptr b' o' ∷ [] in
    let ep : z.0.4.0 ≡ vptr b o ∷ [] = ev ∙ ap (λ (q : Ptr). ptr_val q ∷ []) e in
    let eq : z.0.4.1.0 ≡ vptr b' o' ∷ [] = ew ∙ ap (λ (q : Ptr). ptr_val q ∷ []) e' in
    suffices ! (Run args) (subst (λ (ws : List Val). ent 𝓤 (Run args) (Run ws)) (sym (λ i. ep i ++ (eq i ++ []))) (id⊢ 𝓤 (Run args))) $
    enter ! 𝓣.C 𝓣.Λ fn args Post $ alloc_all ! (λ l. pass_all ! refl ((tt, tt), ((tt, tt), tt)) $
    let Ev = env fn.locals l in
    first ! $ blocks ! $ sets ! (of_opd ! (get ! refl)) refl (tt, tt) $ sets ! (of_opd ! (get ! refl)) refl (tt, tt) $ sets_last ! (addr ! (through ! refl (stop !))) refl (tt, tt) $ exec ! 𝓣.C 𝓣.Λ Ev (after 1 fn.body) (at_ret Ev Post) $
    sets ! (of_opd ! (get ! refl)) refl (tt, tt) $
    first ! $ blocks ! $ sets_last ! (addr ! (through ! refl (stop !))) refl (tt, tt) $ exec ! 𝓣.C 𝓣.Λ Ev (after 3 fn.body) (at_ret Ev Post) $
    sets ! (of_opd ! (get ! refl)) refl (tt, tt) $
    lft_new ! tt (λ α. lft_new ! tt (λ β. let κ : Lft = α ∷ [] in let κ' : Lft = β ∷ [] in
    -- [the second token; the first token; the machine; the exchange]
    move ! (2 ∷ []) $ use1 𝓛 (later (some (λ (γ : ℕ). ‵ ((MutRef (named 0) κ X).own_val (record { ref_ptr = (b, o); ghost_name = γ; now = xs }) (vptr b o ∷ [])) ⊛ ‵ (flent κ (Body (mem X) b o γ)))))
    (lends_ref 𝓛 X (named 0) κ xs b o) $ await ! tt $ pick ! (λ γ. split ! $
    move ! (4 ∷ []) $ use1 𝓛 (later (some (λ (δ : ℕ). ‵ ((MutRef (named 1) κ' Y).own_val (record { ref_ptr = (b', o'); ghost_name = δ; now = ys }) (vptr b' o' ∷ [])) ⊛ ‵ (flent κ' (Body (mem Y) b' o' δ)))))
    (lends_ref 𝓛 Y (named 1) κ' ys b' o') $ await ! tt $ pick ! (λ δ. split ! $
    -- [the second reference; its way back; the first reference; its way back; the second token; the first token]
    let r : MutBor X.Denot = record { ref_ptr = (b, o); ghost_name = γ; now = xs } in
    let s : MutBor Y.Denot = record { ref_ptr = (b', o'); ghost_name = δ; now = ys } in
    let y : G.Ghost = (((κ, (κ', tt)), (full_share, (full_share, tt)), tt, (r, (s, tt)), (vptr b o ∷ [], (vptr b' o' ∷ [], tt))), tt) in
    nothing ! $ move ! (3 ∷ 1 ∷ 0 ∷ []) $ fjoin3 ! $ nothing ! $ move ! (4 ∷ 0 ∷ []) $ join ! $ move ! (4 ∷ 0 ∷ []) $ join ! $ join ! $
    use0 𝓛 (raw ((p.clauses 𝓛 𝓜.mem 𝓡.returns (κ, (κ', tt)) (r, (s, tt))).requires tt)) (id⊢ 𝓤 _) $ move ! (1 ∷ 0 ∷ []) $ join ! $ use1 𝓛 (raw (G.pre y)) (id⊢ 𝓤 _) $
    calls_at ! fm G (met 𝓤 𝓛 𝓜 𝓡 (code.calls-chorus_c::serving::serve 𝓡.env wired)) y (and_then ! (get ! refl) (and_then ! (get ! refl) (no_more !))) (λ v.
    use1 𝓛 (later (some (λ (m : ℕ). ((‵ (flft κ full_share) ⊛ ‵ (flft κ' full_share) ⊛ ‵ ftrue) ⊛ ‵ (u32.own_val m (v ∷ []))) ⊛
    some (λ (ws : X.Denot × (Y.Denot × Unit {0})). ‵ (lasts p.ended y.0.0 y.0.3 ws) ⊛ raw (fact 𝓤 (Served xs ys m ws.0 ws.1.0)))))) (id⊢ 𝓤 _) $
    await ! tt $ pick ! (λ m. split ! $ split ! $ split ! $ lft_end ! tt $ move ! (1 ∷ []) $ split ! $ lft_end ! tt $
    -- [the second lifetime is over; nothing; the first is over; the answer; what the call leaves; the two ways back]
    move ! (4 ∷ []) $ pick ! (λ ws. split ! $ move ! (1 ∷ []) $ heard ! (Served xs ys m ws.0 ws.1.0) (λ is. fsplit ! $ fsplit ! $ move ! (2 ∷ []) $ fsplit ! $ fsplit ! $
    move ! (7 ∷ 10 ∷ 3 ∷ []) $ use3 𝓛 (later (‵ (part_at X full_share ws.0 b o))) (ref_back 𝓛 X κ γ ws.0 b o) $ await ! tt $
    move ! (5 ∷ 8 ∷ 1 ∷ []) $ use3 𝓛 (later (‵ (part_at Y full_share ws.1.0 b' o'))) (ref_back 𝓛 Y κ' δ ws.1.0 b' o') $ await ! tt $
    move ! (6 ∷ []) $ peeks ! u32 (Is u32) (shows 𝓛 u32) m (v ∷ []) (λ is32. lands_as ! refl refl ((uint_Lawful 𝓛 w32).typed m _ is32).0 $
    returns ! (look_at ! 0 refl) $ free_all ! refl $ keep ! (2 ∷ 1 ∷ 0 ∷ []) $
    rewrite ! 0 (λ (q : Ptr). ‵ (lies_at X full_share q ws.0)) (sym e) refl $ rewrite ! 1 (λ (q : Ptr). ‵ (lies_at Y full_share q ws.1.0)) (sym e') refl $ join ! $
    use0 𝓛 (raw (fact 𝓤 (Served xs ys m ws.0 ws.1.0))) (fact_i 𝓤 (Served xs ys m ws.0 ws.1.0) (emp 𝓤) is) $ move ! (1 ∷ 0 ∷ []) $ join ! $
    let Left : X.Denot × Y.Denot → SProp 𝓤 = λ w. sep 𝓤 (sep 𝓤 (sem 𝓛 (lies_at X full_share at w.0)) (sem 𝓛 (lies_at Y full_share to w.1))) (fact 𝓤 (Served xs ys m w.0 w.1)) in
    use1 𝓛 (raw (ex 𝓤 Left)) (ex_i 𝓤 Left (ws.0, ws.1.0)) $
    nothing ! $ nothing ! $ fjoin ! $ nothing ! $ fjoin ! $ nothing ! $ move ! (0 ∷ 1 ∷ 3 ∷ 2 ∷ []) $
    by ! (leaves 𝓛 f.ended hs c z v m (tt, (tt, tt)) (tt, (tt, tt))))))))))))))))))
