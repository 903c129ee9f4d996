-- `part_mut` lends the slice that `run_mut` lends once more, under a new name. A slice that is lent
-- keeps its length, so that the vector's last value is said of a list of that length alone. The
-- borrow checker doesn't know this of a `follows`, and the proof walks the code by hand.
use Rattle.std.proofs.Common.{◌≡◌, ℕ, List, [], ◌∷◌, length, drop as drop_list, refl, sym, ap, ◌∙◌, w64, MutBor, Vec, Global, slice_range}
use Rattle.std.proofs.raw_atomic.Walks.{proved}
use Rattle.std.proofs.lemmas.List.{take_at}
use Rattle.std.specs.Vec.{with_items_from}
use seplogic.Ra.Ura.{Ura}
use base.Logic.{SProp, ent, sep, ex, emp, id⊢}
use base.Fml.{Lft, GName, Share, ftrue, flft, fobs, fbor}
use base.Stored.{coded_list}
use mir.Syntax.{named}
use mir.Val.{vint}
use contract.Monad.{fact}
use contract.Running.{tables}
use types.Logic.{Logic, sem}
use types.Follow.{takes_part}
use types.Mut.{open_ref}
use types.SemTy.{cells, Arr, Body}
use types.Kit.{‵, raw, ◌⊛◌, some, later, ◌$◌, ◌∵◌, !, qed, done, move, keep, drop, use1, use2, split, split3, join, fsplit, fsplit3, fjoin, feq_i, feq_l, pick, await, rewrite, suffices, frame, group, updating, now, show}
use types.Run.{enter, addr, stop, and_then, no_more, returns}
use types.ByLocal.{alloc_all, pass_all, free_all, look_at, get, through, sets, lands_as}
use denote.Array.{Array}
use denote.Builtin.{u8, usize}
use denote.Exit.{yes, no}
use denote.Follow.{follows, follows_then}
use denote.FollowSlice.{heres_id, slice_of}
use denote.Memory.{mem}
use denote.Plain.{uint_vals, uint_Tells}
use denote.Ref.{mut_vals, mut_Tells}
use denote.Shadow.{pure_l, pure_i}
use denote.Signature.{plain, mut_ref_to}
use denote.Slice.{MutSlice, Room, slice_val, mut_slice_at, mut_slice_vals}
use denote.Steps.{nothing, heard, only}
use denote.Triple.Call.{calls_at}
use denote.Triple.Clauses.{Lasts, lasts}
use denote.Triple.Spec.{triple_of}
use denote.Triple.Table.{framed}
use denote.Triple.Walked.{Stays, says, stay_dropped, Goes-dropped, Goes-spent_ref, ends_at}
use Rattle.frame_pool.specs.Lending.{bytes_row, refill}
use Rattle.frame_pool.specs.contracts.part.part_mut as f
use Rattle.frame_pool.specs.contracts.part.run_mut as g
use Rattle.frame_pool.proofs.part.run_mut.Met.{met}
use Rattle.frame_pool.proofs.part.part_mut.Statement.{statement}
use Rattle.frame_pool.proofs.part.part_mut.Code as code

abbrev stayed : Stays f.ended.signature.params f.ended.kept
stayed = (stay_dropped (mut_ref_to (0 ∷ []) tt (plain (λ _. bytes_row))) no, (stay_dropped (plain (λ _. usize)) yes, (stay_dropped (plain (λ _. usize)) yes, tt)))

-- a slice is lent once more, and what it ends as is refilled from what it holds
module _ {M : Type 1} {𝓤 : Ura M} (𝓛 : Logic 𝓤) (κ : Lft) (q : Share) (b o : ℕ) (γ : GName) (xs : List ℕ) where
  open 𝓛 use {H, A}

  abbrev slice : GName → MutBor (List ℕ)
  slice δ = record { ref_ptr = (b, o); ghost_name = δ; now = xs }

  put_back : (ws : List ℕ)
      → ent 𝓤 (sep 𝓤 (sem 𝓛 ((Arr (mem u8) (length xs)).own_at ws b o)) (emp 𝓤)) (sem 𝓛 ((Arr (mem u8) (length xs)).own_at (refill xs ws) b o))
  put_back ws =
      qed 𝓛 (‵ ((Arr (mem u8) (length xs)).own_at ws b o) ∷ raw (emp 𝓤) ∷ []) ∵ fsplit ! $ feq_l ! (λ long.
      let same : refill xs ws ≡ ws = take_at ws (drop_list (length ws) xs) (length xs) long in
      rewrite ! 0 (λ (l : List ℕ). ‵ (cells (mem u8) l b o)) (sym same) refl $
      feq_i ! ℕ (length (refill xs ws)) (length xs) (ap (λ (l : List ℕ). length l) same ∙ long) $ fjoin ! $ keep ! (0 ∷ []) $ done !)

  abbrev Lent : GName → SProp 𝓤
  Lent δ = sep 𝓤 (sem 𝓛 ((MutSlice (named 0) κ u8).own_val (slice δ) (mut_slice_vals (slice δ)))) (sep 𝓤 (A.lft κ q) (sem 𝓛 (follows (Array u8 0) (Array u8 0) γ δ (refill xs))))

  lends : Room u8 (length xs) → ent 𝓤 (sep 𝓤 (sem 𝓛 ((MutSlice (named 0) κ u8).own_val (slice γ) (mut_slice_vals (slice γ)))) (A.lft κ q)) (H.⇛ (ex 𝓤 Lent))
  lends room =
      qed 𝓛 (‵ ((MutSlice (named 0) κ u8).own_val (slice γ) (mut_slice_vals (slice γ))) ∷ ‵ (flft κ q) ∷ []) ∵ updating ! $ fsplit3 ! $ drop ! $
      rewrite ! 0 (λ (l : List ℕ). ‵ (fobs γ ((coded_list u8.coded).code l))) (heres_id u8 xs) refl $
      open_ref ! tt (Arr (mem u8) (length xs)) {b = b} {o = o} $ nothing ! $ move ! (2 ∷ 3 ∷ 4 ∷ 1 ∷ 0 ∷ []) $ group ! 5 $
      use1 𝓛 (later (some (λ (δ : GName). ‵ (fobs δ ((coded_list u8.coded).code xs)) ⊛ ‵ (fbor κ (Body (Arr (mem u8) (length xs)) b o δ)) ⊛ ‵ (flft κ q) ⊛ ‵ (follows (Array u8 0) (Array u8 0) γ δ (refill xs)))))
      (takes_part 𝓛 (Arr (mem u8) (length xs)) (Arr (mem u8) (length xs)) (refill xs) κ q b o b o γ (emp 𝓤) put_back ((coded_list u8.coded).code xs) ((coded_list u8.coded).code xs) xs) $
      await ! tt $ pick ! (λ δ. split3 ! $
      use2 𝓛 (‵ ((MutSlice (named 0) κ u8).own_val (slice δ) (mut_slice_vals (slice δ)))) (slice_of 𝓛 u8 (named 0) κ b o δ xs room) $ now ! $ show ! Lent δ $ done !)

pub part_mut_spec : {M : Type 1} → statement M
part_mut_spec 𝓤 𝓛 𝓜 𝓡 wired =
    let c = f.clauses 𝓛 𝓜.mem 𝓡.returns in let dropped = Goes-dropped 𝓛 1 (plain (λ _. usize)) yes (λ κs x f. refl) in
    proved 𝓛 f.ended stayed c 𝓜 𝓡 (Goes-spent_ref 𝓛 1 (0 ∷ []) tt (plain (λ _. bytes_row)), (dropped, (dropped, tt)))
    f.Key.name code.function (code.unfolded 𝓤 𝓛.H 𝓜 𝓡 wired)
    (λ κs. (mut_vals, (uint_vals w64, (uint_vals w64, tt)))) (λ κs. (mut_Tells (named 0) κs.0 bytes_row, (uint_Tells w64, (uint_Tells w64, tt)))) (λ κs qs bounds a _ are.
    let κ = κs.0 in let q = qs.0 in let v = a.0 in let i = a.1.0 in let j = a.1.1.0 in
    let G = triple_of 𝓛 g.signature (g.spec 𝓛 𝓜.mem 𝓡.returns) in
    let z : G.Ghost = ((κs, qs, bounds, a, (mut_vals v, (vint w64 i ∷ [], (vint w64 j ∷ [], tt)))), tt) in
    let ends : List ℕ → Vec ℕ Global = with_items_from v.now i in
    qed 𝓛 (raw (G.pre z) ∷ []) ∵ enter ! _ _ _ _ _ $
    alloc_all ! (λ l. pass_all ! refl ((tt, tt), ((tt, record { fits = are.1.0.1 }), ((tt, record { fits = are.1.1.0.1 }), tt))) $
    sets ! (addr ! (through ! refl (stop !))) refl (tt, tt) $
    calls_at ! (framed 𝓤 𝓛.H 𝓜 (tables 𝓤 𝓛.H 𝓜 𝓡 𝓡.env)) G (met 𝓤 𝓛 𝓜 𝓡 (code.calls-frame_pool::part::run_mut 𝓡.env wired)) z
    (and_then ! (get ! refl) (and_then ! (get ! refl) (and_then ! (get ! refl) (no_more !)))) (λ u.
    use1 𝓛 (later (some (λ (r : MutBor (List ℕ)). ((‵ (flft κ q) ⊛ ‵ ftrue) ⊛ ‵ ((MutSlice (named 0) κ u8).own_val r (u ∷ []))) ⊛
    some (λ (ws : Lasts g.ended κs a). ‵ (lasts g.ended κs a ws) ⊛ (‵ (follows bytes_row (Array u8 0) v.ghost_name r.ghost_name ends) ⊛ raw (fact 𝓤 (r.now ≡ slice_range v.now.items i j))))))) (id⊢ 𝓤 _) $
    await ! tt $ pick ! (λ r. split ! $ split ! $ split ! $ move ! (3 ∷ []) $ pick ! (λ ws. split ! $ drop ! $ split ! $ move ! (1 ∷ []) $ heard ! _ (λ is_part.
    -- [what the vector ends as; the token; nothing; the slice]
    move ! (3 ∷ []) $ fsplit ! $ pure_l ! (mut_slice_at u8 r (u ∷ [])) (λ p.
    lands_as ! (ap only p.0) refl (tt, (tt, (record { fits = p.1.0 }, tt))) $
    pure_i ! (mut_slice_at u8 r (mut_slice_vals r)) (tt, (tt, tt)) (refl, p.1) $ fjoin ! $ move ! (0 ∷ 2 ∷ []) $
    use2 𝓛 (later (some (λ (δ : GName). ‵ ((MutSlice (named 0) κ u8).own_val (record r { ghost_name = δ }) (mut_slice_vals r)) ⊛ ‵ (flft κ q) ⊛ ‵ (follows (Array u8 0) (Array u8 0) r.ghost_name δ (refill r.now)))))
    (lends 𝓛 κ q r.ref_ptr.0 r.ref_ptr.1 r.ghost_name r.now p.1) $ await ! tt $ pick ! (λ δ. split3 ! $ move ! (3 ∷ 2 ∷ []) $
    use2 𝓛 (‵ (follows bytes_row (Array u8 0) v.ghost_name δ (λ w. ends (refill r.now w)))) (follows_then 𝓛 bytes_row (Array u8 0) (Array u8 0) ends (refill r.now) v.ghost_name r.ghost_name δ) $
    rewrite ! 0 (λ (old : List ℕ). ‵ (follows bytes_row (Array u8 0) v.ghost_name δ (λ w. ends (refill old w)))) is_part refl $
    returns ! (look_at ! 0 refl) $ free_all ! refl $ keep ! (1 ∷ 2 ∷ 0 ∷ []) $
    suffices ! _ (ends_at 𝓛 f.ended stayed c z (slice_val r.ref_ptr (length r.now)) (record r { ghost_name = δ }) (tt, (tt, (tt, tt))) (tt, (tt, (tt, tt)))) $
    nothing ! $ nothing ! $ fjoin ! $ nothing ! $ fjoin ! $ nothing ! $ fjoin ! $ join ! $
    nothing ! $ move ! (2 ∷ 0 ∷ []) $ join ! $ join ! $ frame ! $ says ! is_part $ done !))))))))
