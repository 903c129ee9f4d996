-- Pages of nodes are pushed to their homes: none, one, and over two moments.
use Rattle.std.proofs.Common.{◌≡◌, ℕ, ◌≤◌, false, List, [], ◌∷◌, ◌++◌, length-append, Option, Some, None, refl, sym, ap, ◌∙◌, arith}
use Rattle.std.specs.List.{AllByRecursion}
use Rattle.std.specs.Option.{IfSome, option_map_or}
use Rattle.std.specs.Prelude.{option_map}
use Rattle.vm_ids.specs.Counting.{MapperCounts, RoseBy}
use Rattle.vm_ids.specs.Denying.{denies}
use Rattle.vm_ids.specs.Held.{Held, Segments, put_segment_page, segments_in, segments_of}
use Rattle.vm_ids.specs.declared.numbers.NodeId.{NodeId}
use Rattle.local_cache.specs.declared.home.Home.{Home}
use Rattle.local_cache.specs.Arena.{Arena}
use Rattle.local_cache.specs.Home.{home_of}
use Rattle.residency.specs.Causes.{Later}
use Rattle.residency.specs.Pushing.{HasOpenHome, Pages, TellsBy, put_home, put_homes, told_bytes}
use Rattle.residency.specs.World.{World}
use Rattle.residency.proofs.Pushes.Outside.{put_at}

pub all_then : {X : Type 0} (P Q : X → Type 0) (xs : List X) → ((x : X) → P x → Q x) → AllByRecursion P xs → AllByRecursion Q xs
all_then P Q [] f p = tt
all_then P Q (x ∷ xs) f p = (f x p.0, all_then P Q xs f p.1)

pub all_both : {X : Type 0} (P : X → Type 0) (xs ys : List X) → AllByRecursion P xs → AllByRecursion P ys → AllByRecursion P (xs ++ ys)
all_both P [] ys p q = q
all_both P (x ∷ xs) ys p q = (p.0, all_both P xs ys p.1 q)

-- What the mapper denies stays

abbrev DenyAlike : Option Segments → Option Segments → Type 0
DenyAlike s t = option_map (λ (s : Segments). s.denied) t ≡ option_map (λ (s : Segments). s.denied) s

module _ (a : Arena) (pages : Pages) where
  denied_put : (n : NodeId) (s : Option Segments) → DenyAlike s (option_map (put_home a pages n) s)
  denied_put n None = refl
  denied_put n (Some s) = by_home (home_of a n)
    where
      by_home : (o : Option Home) → Some (option_map_or (λ (home : Home). put_segment_page home.segment.0 home.page.0 (told_bytes (pages n)) s) o s).denied ≡ Some s.denied
      by_home None = refl
      by_home (Some home) = refl

  denied_puts : (ns : List NodeId) (s : Option Segments) → DenyAlike s (put_homes a pages ns s)
  denied_puts [] s = refl
  denied_puts (n ∷ ns) s = denied_puts ns (option_map (put_home a pages n) s) ∙ denied_put n s

  puts_both : (xs ys : List NodeId) (s : Option Segments) → put_homes a pages (xs ++ ys) s ≡ put_homes a pages ys (put_homes a pages xs s)
  puts_both [] ys s = refl
  puts_both (x ∷ xs) ys s = puts_both xs ys (option_map (put_home a pages x) s)

allowed_before : (told now : Option Held) (seg page : ℕ) → DenyAlike (segments_of told) (segments_of now) → IfSome now (λ h. denies h.denied seg page ≡ false) → IfSome told (λ h. denies h.denied seg page ≡ false)
allowed_before None now seg page e t = tt
allowed_before (Some h) None seg page e t = absurd (cc)
allowed_before (Some h) (Some g) seg page e t =
    let same : h.denied ≡ g.denied = cc in
    ap (λ (d : List (ℕ × ℕ)). denies d seg page) same ∙ t

-- None, and one

module _ {May : NodeId → Type 0} {pages : Pages} (a b : World) (c d : MapperCounts) where
  pub tells_none : segments_of b.told ≡ segments_of a.told → c.pushes ≤ d.pushes → TellsBy May pages a b c d
  tells_none same later = record { pushed = []; may = tt; segments = same; counted = λ below. omega (arith, later) }

  pub tells_one : (n : NodeId) (home : Home) (bytes : List ℕ) → May n → home_of a.caches n ≡ Some home → pages n ≡ Some (option_map (λ _. bytes) a.told) → b.told ≡ option_map (put_at home bytes) a.told
      → RoseBy 1 c.pushes d.pushes → TellsBy May pages a b c d
  tells_one n home bytes may at page told rose = record { pushed = n ∷ []; may = (may, tt); segments = ap segments_of told ∙ by_told a.told page; counted = λ below. omega (arith, rose below) }
    where
      by_told : (told : Option Held) → pages n ≡ Some (option_map (λ _. bytes) told) → segments_of (option_map (put_at home bytes) told) ≡ option_map (put_home a.caches pages n) (segments_of told)
      by_told None page = refl
      by_told (Some g) page = sym (
          ap (λ (o : Option Home). Some (option_map_or (λ (home : Home). put_segment_page home.segment.0 home.page.0 (told_bytes (pages n)) (segments_in g)) o (segments_in g))) at
          ∙ ap (λ (o : Option (Option (List ℕ))). Some (put_segment_page home.segment.0 home.page.0 (told_bytes o) (segments_in g))) page)

-- whatever else is so then
pub tells_as : {May : NodeId → Type 0} {pages : Pages} (a b v : World) (c d : MapperCounts) → v.told ≡ b.told → TellsBy May pages a b c d → TellsBy May pages a v c d
tells_as a b v c d same t = record { pushed = t.pushed; may = t.may; segments = ap segments_of same ∙ t.segments; counted = t.counted }

-- Over two moments

-- From one world to the next each node keeps its home and such a page.
module _ (a b : World) (homes : (n : NodeId) → home_of b.caches n ≡ home_of a.caches n) (before after : Pages) (same : (n : NodeId) → after n ≡ before n) where
  -- so the same is put at the same home
  puts_same : (ns : List NodeId) (s : Option Segments) → put_homes b.caches after ns s ≡ put_homes a.caches before ns s
  puts_same [] s = refl
  puts_same (n ∷ ns) s =
      puts_same ns (option_map (put_home b.caches after n) s)
      ∙ ap (λ (put : Segments → Segments). put_homes a.caches before ns (option_map put s)) (λ i s. option_map_or (λ (home : Home). put_segment_page home.segment.0 home.page.0 (told_bytes (same n i)) s) (homes n i) s)

  pub tells_over : (May Then : NodeId → Type 0) → ((n : NodeId) → (HasOpenHome b n → HasOpenHome a n) → Then n → May n) → (v : World) (c d e : MapperCounts) → Later d e → TellsBy May before a b c d → TellsBy Then after b v d e → TellsBy May before a v c e
  tells_over May Then may v c d e later p q = record {
    pushed = p.pushed ++ q.pushed;
    may = all_both May p.pushed q.pushed p.may (all_then Then May q.pushed (λ n. may n (open_before n)) q.may);
    segments = q.segments ∙ puts_same q.pushed (segments_of b.told) ∙ ap (put_homes a.caches before q.pushed) p.segments ∙ sym (puts_both a.caches before p.pushed q.pushed (segments_of a.told));
    counted = λ below. (
        let second = q.counted below in
        let first = p.counted (let l = later.pushes in omega (arith, below)) in
        omega (arith, length-append p.pushed q.pushed));
  }
    where
      -- a home that is open was so before
      open_before : (n : NodeId) → HasOpenHome b n → HasOpenHome a n
      open_before n h = record {
        home = h.home;
        is = sym (homes n) ∙ h.is;
        allowed = allowed_before a.told b.told h.home.segment.0 h.home.page.0 (ap (option_map (λ (s : Segments). s.denied)) p.segments ∙ denied_puts a.caches before p.pushed (segments_of a.told)) h.allowed;
      }
