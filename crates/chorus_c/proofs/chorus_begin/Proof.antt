-- What safe code makes is written into the room that C gives.
use Rattle.std.proofs.Common.{◌≡◌, ℕ, List, [], ◌∷◌, ◌++◌, refl, sym, ap, ◌∙◌, subst, w32}
use base.Fraction.{full_share}
use mir.Syntax.{Fn, impl, tnil, dnil}
use mir.Val.{Val, vunit, vint, vptr}
use base.Logic.{SProp, ent, sep, emp, ex, ex_e, ex_i, never, snd∗, id⊢}
use base.Fml.{ftrue}
use prog.Wp.{WpFn}
use types.Logic.{sem}
use contract.Monad.{fact, fact_i}
use contract.Running.{tables}
use types.Kit.{‵, raw, ◌⊛◌, some, later, at_ret, ◌$◌, ◌∵◌, !, qed, by, move, keep, drop, use0, use1, use2, split, join, pick, fsplit, fjoin, fjoin3, feq_l, feq_i, rewrite, suffices, await}
use types.Run.{of_opd, unit_lit, init, stop, and_then, no_more, assigns_last, first, blocks, exec, returns, enter}
use types.ByLocal.{alloc_all, pass_all, free_all, look_at, get, through, sets, lands_as, env}
use denote.Exit.{yes}
use denote.RattleType.{owns}
use denote.Laws.{Is, shows}
use denote.Plain.{uint_Makes}
use denote.Builtin.{u32, RawPtr}
use denote.Memory.{part_at}
use denote.RawPtr.{Ptr, ptr_val, in_a_block, lies_at, room_at}
use denote.Signature.{plain}
use denote.Steps.{owned, peeks, heard, nothing}
use denote.Triple.Call.{calls_at}
use denote.Triple.Clauses.{lasts, ensured}
use denote.Triple.Spec.{triple_of}
use denote.Triple.Table.{framed}
use denote.Triple.Walked.{Stays, stay_dropped, walk_of, Goes-dropped}
use borrow.Table.OneValue.{part_in}
use sound.WpLaws.{FmC}
use Rattle.std.proofs.VecSteps.Shapes.{after}
use Rattle.std.proofs.alloc.Calls.{handle_tells}
use Rattle.std.proofs.raw_atomic.Walks.{proved_at, leaves}
use Rattle.std.specs.contracts.alloc.Global.{the_row as Z}
use Rattle.std.proofs.alloc.Global.TheLaws as heap_laws
use Rattle.std.specs.contracts.impls.GlobalAllocator.TheImpl.{ghosts, dict}
use Rattle.chorus_c.specs.Serving.{Begun}
use Rattle.chorus_c.specs.contracts.handle.Handle.{the_row as X}
use Rattle.chorus_c.proofs.handle.Handle.TheLaws.{the_row_laws}
use Rattle.chorus_c.specs.contracts.handle.begin as p
use Rattle.chorus_c.proofs.handle.begin.Met.{met}
use Rattle.chorus_c.specs.contracts.chorus_begin as f
use Rattle.chorus_c.specs.contracts.chorus_begin.Key.{name as #self}
use Rattle.chorus_c.proofs.chorus_begin.Statement.{statement}
use Rattle.chorus_c.proofs.chorus_begin.Code as code

abbrev hs : Stays f.ended.signature.params f.ended.kept
hs = (stay_dropped (plain (λ _. Z)) yes, (stay_dropped (plain (λ _. RawPtr)) yes, (stay_dropped (plain (λ _. u32)) yes, (stay_dropped (plain (λ _. u32)) yes, (stay_dropped (plain (λ _. u32)) yes, tt)))))

pub chorus_begin_spec : {M : Type 1} → statement M
chorus_begin_spec 𝓤 𝓛 𝓜 𝓡 wired =
    let H = 𝓛.H in let 𝓣 = tables 𝓤 H 𝓜 𝓡 𝓡.env in let c = f.clauses 𝓛 𝓜.mem 𝓡.returns in let fn : Fn = code.function in
    let G = triple_of 𝓛 p.signature (p.spec 𝓛 𝓜.mem 𝓡.returns) in let fm : FmC 𝓤 H 𝓛.laws 𝓣.C = λ g. framed 𝓤 H 𝓜 𝓣 g in
    let number = Goes-dropped 𝓛 0 (plain (λ _. u32)) yes (λ κs x w. refl) in
    proved_at 𝓛 f.ended hs c 𝓜 𝓡 (Goes-dropped 𝓛 0 (plain (λ _. Z)) yes (λ κs x w. refl), (Goes-dropped 𝓛 0 (plain (λ _. RawPtr)) yes (λ κs x w. refl), (number, (number, (number, tt)))))
    #self fn (code.unfolded 𝓤 H 𝓜 𝓡 wired) (λ z are.
    let Post : Val → SProp 𝓤 = (walk_of 𝓛 f.ended hs c).post z in let Run : List Val → SProp 𝓤 = λ ws. WpFn 𝓤 H 𝓣.C 𝓣.Λ fn ws Post in
    let a : Z.Denot = z.0.3.0 in let at : Ptr = z.0.3.1.0 in let n : ℕ = z.0.3.1.1.0 in let m : ℕ = z.0.3.1.1.1.0 in let k : ℕ = z.0.3.1.1.1.1.0 in
    let is_n = are.1.1.0 in let is_m = are.1.1.1.0 in let is_k = are.1.1.1.1.0 in
    qed 𝓛 ((‵ ftrue ⊛ ‵ (owns (Z ∷ RawPtr ∷ u32 ∷ u32 ∷ u32 ∷ []) z.0.3 z.0.4)) ∷ ‵ (room_at X at) ∷ []) ∵ split ! $ drop ! $ fsplit ! $
    handle_tells (record { row = Z; laws = heap_laws.the_row_laws; g = ghosts; d = dict; drops = impl [] tnil dnil }) ! a z.0.4.0 (λ hv ea fa.
    move ! (1 ∷ []) $ fsplit ! $ feq_l ! (λ ev. drop ! $ move ! (1 ∷ []) $
    in_a_block ! at (λ q. room_at X q) (id⊢ 𝓤 (never 𝓤)) (λ b o e.
    let vn : Val = vint w32 n in let vm : Val = vint w32 m in let vk : Val = vint w32 k in
    let args : List Val = hv ∷ vptr b o ∷ vn ∷ vm ∷ vk ∷ [] in let ep : z.0.4.1.0 ≡ vptr b o ∷ [] = ev ∙ ap (λ (q : Ptr). ptr_val q ∷ []) e in
    suffices ! (Run args) (subst (λ (ws : List Val). ent 𝓤 (Run args) (Run ws)) (sym (λ i. ea i ++ (ep i ++ (is_n.0 i ++ (is_m.0 i ++ (is_k.0 i ++ [])))))) (id⊢ 𝓤 (Run args))) $
    enter ! 𝓣.C 𝓣.Λ fn args Post $ alloc_all ! (λ l. pass_all ! refl (fa, ((tt, tt), ((tt, record { fits = is_n.1 }), ((tt, record { fits = is_m.1 }), ((tt, record { fits = is_k.1 }), tt))))) $ let Ev = env fn.locals l in
    first ! $ blocks ! $ sets ! (of_opd ! (get ! refl)) refl (tt, tt) $
    -- [the room; the allocator; the locals]
    let given : Z.Denot × (ℕ × (ℕ × (ℕ × Unit {0}))) = (a, (n, (m, (k, tt)))) in
    let y : G.Ghost = ((tt, tt, tt, given, (hv ∷ [], (vn ∷ [], (vm ∷ [], (vk ∷ [], tt))))), tt) in
    nothing ! $ owned ! u32 (Is u32) (uint_Makes 𝓛 w32) k (vk ∷ []) (refl, is_k.1) $ fjoin ! $ owned ! u32 (Is u32) (uint_Makes 𝓛 w32) m (vm ∷ []) (refl, is_m.1) $ fjoin ! $
    owned ! u32 (Is u32) (uint_Makes 𝓛 w32) n (vn ∷ []) (refl, is_n.1) $ move ! (3 ∷ 0 ∷ 1 ∷ []) $ fjoin3 ! $ nothing ! $ join ! $
    use0 𝓛 (raw ((p.clauses 𝓛 𝓜.mem 𝓡.returns tt given).requires tt)) (id⊢ 𝓤 _) $ move ! (1 ∷ 0 ∷ []) $ join ! $ use1 𝓛 (raw (G.pre y)) (id⊢ 𝓤 _) $
    calls_at ! fm G (met 𝓤 𝓛 𝓜 𝓡 (code.calls-chorus_c::handle::begin 𝓡.env wired)) y (and_then ! (get ! refl) (and_then ! (get ! refl) (and_then ! (get ! refl) (and_then ! (get ! refl) (no_more !))))) (λ v.
    use1 𝓛 (later (some (λ (h : X.Denot). (‵ ftrue ⊛ ‵ (X.own_val h (v ∷ []))) ⊛ raw (ensured 𝓛 p.ended (p.clauses 𝓛 𝓜.mem 𝓡.returns) tt given tt h)))) (id⊢ 𝓤 _) $
    await ! tt $ pick ! (λ h. let Told : SProp 𝓤 = fact 𝓤 (Begun n m k h) in
    split ! $ move ! (1 ∷ []) $ use1 𝓛 (raw Told) (ex_e 𝓤 _ (λ ws. snd∗ 𝓤 (sem 𝓛 (lasts p.ended tt given ws)) Told)) $ heard ! (Begun n m k h) (λ begun. split ! $ drop ! $
    peeks ! X (Is X) (shows 𝓛 X) h (v ∷ []) (λ isx. let typed = ((the_row_laws.lawful 𝓛).typed h (v ∷ []) isx).0 in lands_as ! refl refl typed $
    -- [what was made; the room]
    assigns_last ! (of_opd ! (get ! refl)) (through ! refl (stop !)) (init ! 1 refl typed) $ exec ! 𝓣.C 𝓣.Λ Ev (after 1 fn.body) (at_ret Ev Post) $
    sets ! (of_opd ! (unit_lit !)) refl (tt, tt) $ returns ! (look_at ! 0 refl) $ free_all ! refl $ keep ! (1 ∷ 0 ∷ []) $
    use2 𝓛 (‵ (part_at X full_share h b o)) (part_in 𝓛 X refl full_share h b o v) $ rewrite ! 0 (λ (q : Ptr). ‵ (lies_at X full_share q h)) (sym e) refl $
    use0 𝓛 (raw Told) (fact_i 𝓤 (Begun n m k h) (emp 𝓤) begun) $ move ! (1 ∷ 0 ∷ []) $ join ! $
    let Left : X.Denot → SProp 𝓤 = λ w. sep 𝓤 (sem 𝓛 (lies_at X full_share at w)) (fact 𝓤 (Begun n m k w)) in
    use1 𝓛 (raw (ex 𝓤 Left)) (ex_i 𝓤 Left h) $
    feq_i ! (List Val) (vunit ∷ []) (vunit ∷ []) refl $
    nothing ! $ nothing ! $ fjoin ! $ nothing ! $ fjoin ! $ nothing ! $ fjoin ! $ nothing ! $ fjoin ! $ nothing ! $ fjoin ! $ nothing ! $
    by ! (leaves 𝓛 f.ended hs c z vunit tt (tt, (tt, (tt, (tt, (tt, tt))))) (tt, (tt, (tt, (tt, (tt, tt)))))))))))))))
