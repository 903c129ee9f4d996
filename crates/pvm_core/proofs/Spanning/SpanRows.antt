-- The rows of a copy and a move.
use Rattle.std.proofs.Common.{◌≡◌, ◌==◌, ℕ, ◌+◌, ◌≤◌, Bool, true, false, length, take, drop, replicate, Option, Some, None, is_some, option_map, refl, ap, ◌∙◌, arith}
use Rattle.std.specs.Prelude.{◌||◌, ◌&&◌, nat_lt}
use Rattle.std.proofs.lemmas.Bool.Decides.{nat_tests}
use Rattle.vm_ids.specs.Held.{Segments}
use Rattle.vm_ids.specs.declared.command.Span.{Span}
use Rattle.vm_ids.specs.declared.refusal.Refusal.{Refusal}
use Rattle.vm_ids.specs.declared.refusal.Refusal.TheVariants as refusals
use Rattle.vm_ids.specs.declared.reply.Reply.TheVariants as replies
use Rattle.vm_model.specs.Answering.{change_cache, copy_of, is_any_denied, is_any_locked, move_of, put_cache, put_pages, refuse, reply, shares, unless, with_some}
use Rattle.vm_model.specs.Machine.{Cache, Machine, cache_of, zero_page}
use Rattle.pvm_core.specs.Spans.{copy_refusal, move_refusal}

abbrev pub pages_in_cache : Option Cache → Option ℕ
pages_in_cache o = option_map (λ (c : Cache). length c.pages) o

-- the pages pass an end
abbrev pub outside : Cache → Cache → Span → Bool
outside c d s = nat_lt (length c.pages) (s.from_page.0 + s.pages) || nat_lt (length d.pages) (s.to_page.0 + s.pages)

abbrev pub meets : Span → Bool
meets s = s.from.0 == s.to.0 && shares s.from_page.0 s.pages s.to_page.0 s.pages

-- a page is locked that a copy replaces, or that a move reads or replaces
abbrev pub copy_locked : Machine → Span → Bool
copy_locked m s = is_any_locked m s.to s.to_page.0 s.pages

abbrev pub move_locked : Machine → Span → Bool
move_locked m s = is_any_locked m s.from s.from_page.0 s.pages || is_any_locked m s.to s.to_page.0 s.pages

module _ (m : Machine) (s : Span) (h : Segments) where
  pub copy_refused : (r : Refusal) (o p : Option Cache) (l : Bool) → cache_of m s.from.0 ≡ o → cache_of m s.to.0 ≡ p → copy_locked m s ≡ l → copy_refusal (pages_in_cache o) (pages_in_cache p) l s ≡ Some r → copy_of m s h ≡ refuse m r
  unfolding copy_of with_some unless
  copy_refused r None p l from to lock is = let e : refusals.NoCache ≡ r = cc is in rw from (ap (refuse m) e)
  copy_refused r (Some c) None l from to lock is = let e : refusals.NoCache ≡ r = cc is in rw (from, to) (ap (refuse m) e)
  copy_refused r (Some c) (Some d) l from to lock is = go (outside c d s) (meets s) l refl refl refl
    where
      go : (x y z : Bool) → outside c d s ≡ x → meets s ≡ y → l ≡ z → copy_of m s h ≡ refuse m r
      go true y z e f k = let same : refusals.OutOfCache ≡ r = cc (is, e) in rw (from, to, e) (ap (refuse m) same)
      go false true z e f k = let same : refusals.Overlap ≡ r = cc (is, e, f) in rw (from, to, e, f) (ap (refuse m) same)
      go false false true e f k = let same : refusals.Locked ≡ r = cc (is, e, f, k) in let t = lock ∙ k in rw (from, to, e, f, t) (ap (refuse m) same)
      go false false false e f k = absurd (cc (is, e, f, k))

  pub move_refused : (r : Refusal) (o p : Option Cache) (named l : Bool) → cache_of m s.from.0 ≡ o → ((c : Cache) → cache_of m s.from.0 ≡ Some c → is_some c.segment ≡ named) → cache_of m s.to.0 ≡ p → move_locked m s ≡ l → move_refusal (pages_in_cache o) named (pages_in_cache p) l s ≡ Some r → move_of m s h ≡ refuse m r
  unfolding move_of with_some unless
  move_refused r None p named l from of to lock is = let e : refusals.NoCache ≡ r = cc is in rw from (ap (refuse m) e)
  move_refused r (Some c) None named l from of to lock is = let e : refusals.NoCache ≡ r = cc is in rw (from, to) (ap (refuse m) e)
  move_refused r (Some c) (Some d) named l from of to lock is = go (outside c d s) named (meets s) l refl refl refl refl
    where
      go : (x y z w : Bool) → outside c d s ≡ x → named ≡ y → meets s ≡ z → l ≡ w → move_of m s h ≡ refuse m r
      go true y z w e n f k = let same : refusals.OutOfCache ≡ r = cc (is, e) in rw (from, to, e) (ap (refuse m) same)
      go false true z w e n f k = let same : refusals.NotTemp ≡ r = cc (is, e, n) in let t = of c from ∙ n in rw (from, to, e, t) (ap (refuse m) same)
      go false false true w e n f k = let same : refusals.Overlap ≡ r = cc (is, e, n, f) in let t = of c from ∙ n in rw (from, to, e, t, f) (ap (refuse m) same)
      go false false false true e n f k = let same : refusals.Locked ≡ r = cc (is, e, n, f, k) in let t = of c from ∙ n in let q = lock ∙ k in rw (from, to, e, t, f, q) (ap (refuse m) same)
      go false false false false e n f k = absurd (cc (is, e, n, f, k))

  module _ (source destination : Cache) (from : cache_of m s.from.0 ≡ Some source) (to : cache_of m s.to.0 ≡ Some destination) (out : outside source destination s ≡ false) (apart : meets s ≡ false) where
    pub copy_row : copy_locked m s ≡ false → is_any_denied m h s ≡ false → copy_of m s h ≡ reply replies.Done (put_cache m s.to.0 (put_pages s.to_page.0 (take s.pages (drop s.from_page.0 source.pages)) destination))
    unfolding copy_of with_some unless
    copy_row lock allowed = rw (from, to, out, apart, lock, allowed) refl

    pub copy_denied : copy_locked m s ≡ false → is_any_denied m h s ≡ true → copy_of m s h ≡ refuse m refusals.WriteDenied
    unfolding copy_of with_some unless
    copy_denied lock denied = rw (from, to, out, apart, lock, denied) refl

    pub move_row : move_locked m s ≡ false → is_some source.segment ≡ false → is_any_denied m h s ≡ false
        → move_of m s h ≡ reply replies.Done (change_cache (put_cache m s.to.0 (put_pages s.to_page.0 (take s.pages (drop s.from_page.0 source.pages)) destination)) s.from.0 (put_pages s.from_page.0 (replicate s.pages (zero_page m.page_bytes))))
    unfolding move_of with_some unless
    move_row lock temp allowed = rw (from, to, out, temp, apart, lock, allowed) refl

    pub move_denied : move_locked m s ≡ false → is_some source.segment ≡ false → is_any_denied m h s ≡ true → move_of m s h ≡ refuse m refusals.WriteDenied
    unfolding move_of with_some unless
    move_denied lock temp denied = rw (from, to, out, temp, apart, lock, denied) refl

not_past : (a b : ℕ) → nat_lt a b ≡ false → b ≤ a
not_past a b e = grind (arith, nat_tests)

-- what is known where nothing refuses, where it is told whether a page is locked
pub record IsOpen (o p : Option ℕ) (l : Bool) (s : Span) : Type 0 where
  pub from : ℕ
  pub to : ℕ
  pub from_is : o ≡ Some from
  pub to_is : p ≡ Some to
  pub from_ends : s.from_page.0 + s.pages ≤ from
  pub to_ends : s.to_page.0 + s.pages ≤ to
  pub apart : meets s ≡ false
  pub unlocked : l ≡ false

pub is_open : (o p : Option ℕ) (l : Bool) (s : Span) → copy_refusal o p l s ≡ None → IsOpen o p l s
is_open None p l s e = absurd (cc e)
is_open (Some n) None l s e = absurd (cc e)
is_open (Some n) (Some k) l s e = go (nat_lt n (s.from_page.0 + s.pages)) (nat_lt k (s.to_page.0 + s.pages)) (meets s) l refl refl refl refl
  where
    go : (x y z w : Bool) → nat_lt n (s.from_page.0 + s.pages) ≡ x → nat_lt k (s.to_page.0 + s.pages) ≡ y → meets s ≡ z → l ≡ w → IsOpen (Some n) (Some k) l s
    go true y z w a b c d = absurd (cc (e, a))
    go false true z w a b c d = absurd (cc (e, a, b))
    go false false true w a b c d = absurd (cc (e, a, b, c))
    go false false false true a b c d = absurd (cc (e, a, b, c, d))
    go false false false false a b c d = record { from = n; to = k; from_is = refl; to_is = refl; from_ends = not_past n (s.from_page.0 + s.pages) a; to_ends = not_past k (s.to_page.0 + s.pages) b; apart = c; unlocked = d }

-- a move isn't refused either where no segment names its source, of which no page is locked
pub is_movable : (o p : Option ℕ) (named j l : Bool) (s : Span) → move_refusal o named p (j || l) s ≡ None → (copy_refusal o p l s ≡ None) × (named ≡ false) × (j ≡ false)
is_movable None p named j l s e = absurd (cc e)
is_movable (Some n) None named j l s e = absurd (cc e)
is_movable (Some n) (Some k) named j l s e = go (nat_lt n (s.from_page.0 + s.pages)) (nat_lt k (s.to_page.0 + s.pages)) named (meets s) j refl refl refl refl refl
  where
    go : (x y z w v : Bool) → nat_lt n (s.from_page.0 + s.pages) ≡ x → nat_lt k (s.to_page.0 + s.pages) ≡ y → named ≡ z → meets s ≡ w → j ≡ v → (copy_refusal (Some n) (Some k) l s ≡ None) × (named ≡ false) × (j ≡ false)
    go true y z w v a b c d f = absurd (cc (e, a))
    go false true z w v a b c d f = absurd (cc (e, a, b))
    go false false true w v a b c d f = absurd (cc (e, a, b, c))
    go false false false true v a b c d f = absurd (cc (e, a, b, c, d))
    go false false false false true a b c d f = absurd (cc (e, a, b, c, d, f))
    go false false false false false a b c d f = (cc (e, a, b, c, d, f), c, f)
