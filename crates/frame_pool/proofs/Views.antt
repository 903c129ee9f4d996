-- What is read and written in a page that is there, as the region is seen.
use Rattle.std.proofs.Common.{◌≡◌, ℕ, suc, ◌+◌, ◌-◌, ◌*◌, ◌<◌, ◌≤◌, List, [], ◌++◌, length, take, drop, get_or, set, sym, ap, ◌∙◌, arith, Vec, Global, slice_range, length-append, length-drop, append_assoc}
use Rattle.std.proofs.Math.Nat.{suc-mul, mul-le-mul_right}
use Rattle.std.proofs.lemmas.List.{drop-drop, length-take-le, with_items_is}
use Rattle.std.specs.List.{copy_within, length_refill}
use Rattle.std.specs.Vec.{with_items_from}
use Rattle.frame_pool.specs.Lending.{refill}
use Rattle.frame_pool.specs.Region.{IsSound, Pages, pages_in, pages_seen}
use Rattle.frame_pool.specs.declared.region.Region.TheInside.{Inside}
use Rattle.frame_pool.proofs.WrittenPages.{length-pages_in, there_at, there_written}

-- a page that is seen is one of the region's
pub page_below : (r : Inside) (p : Pages) (i : ℕ) → pages_seen r ≡ p → IsSound r → i < length p.bytes → i < r.count
page_below r p i seen sound h =
    omega (arith, h, ap (λ (q : Pages). length q.bytes) seen, length-pages_in r.page r.count r.there r.bytes.items sound.within)

-- the part of the bytes that page i has
abbrev pub part : ℕ → ℕ → List ℕ → List ℕ
part n i xs = slice_range xs (i * n) (i * n + n)

pub within : (n k i : ℕ) (xs : List ℕ) → length xs ≡ k * n → i < k → i * n + n ≤ length xs
within n k i xs whole h =
    let room : suc i * n ≤ k * n = mul-le-mul_right n (omega (arith, h)) in
    omega (arith, suc-mul i n, whole)

part_is : (n i : ℕ) (xs : List ℕ) → part n i xs ≡ take n (drop (i * n) xs)
part_is n i xs = ap (λ (m : ℕ). take m (drop (i * n) xs)) (omega arith)

pub part_long : (n k i : ℕ) (xs : List ℕ) → length xs ≡ k * n → i < k → length (part n i xs) ≡ n
part_long n k i xs whole h =
    let room = within n k i xs whole h in let left = length-drop (i * n) xs in
    ap (λ (ys : List ℕ). length ys) (part_is n i xs) ∙ length-take-le n (drop (i * n) xs) (omega arith)

pub part_seen : (n count k i : ℕ) (xs : List ℕ) → i < k → part n i xs ≡ get_or (pages_in n count k xs) i []
part_seen n count k i xs h = part_is n i xs ∙ sym (there_at n count k i xs h)

pub lent_page : (n count k i : ℕ) (v : Vec ℕ Global) (w : List ℕ) → length v.items ≡ k * n → i < k
    → pages_in n count k (with_items_from v (i * n) (refill (part n i v.items) w)).items
    ≡ set (pages_in n count k v.items) i (refill (get_or (pages_in n count k v.items) i []) w)
lent_page n count k i v w whole h =
    let xs : List ℕ = v.items in let start : ℕ = i * n in
    let room = within n k i xs whole h in
    let old : List ℕ = part n i xs in
    let new : List ℕ = refill old w in
    let long : length new ≡ n = sym (length_refill (length old) old w (λ _. length old)) ∙ part_long n k i xs whole h in
    let all : List ℕ = take start xs ++ (new ++ drop (length new) (drop start xs)) in
    let kept : length all ≡ v.len =
    omega (arith, room, long, v.ok.0, length-append (take start xs) (new ++ drop (length new) (drop start xs)), length-append new (drop (length new) (drop start xs)), length-drop (length new) (drop start xs), length-drop start xs, length-take-le start xs (omega (arith, room))) in
    ap (pages_in n count k) (with_items_is v all kept ∙ ap (λ (m : ℕ). take start xs ++ (new ++ drop m (drop start xs))) long)
    ∙ there_written n count k i xs new h whole long
    ∙ ap (λ (page : List ℕ). set (pages_in n count k xs) i (refill page w)) (part_seen n count k i xs h)

-- a copy leaves the bytes as many as they were
pub copied_long : (n k from to : ℕ) (xs : List ℕ) → length xs ≡ k * n → from < k → to < k
    → length (copy_within xs (from * n) (from * n + n) (to * n)) ≡ k * n
copied_long n k from to xs whole there here =
    let start : ℕ = to * n in let rest : ℕ = start + (from * n + n - from * n) in
    let room = within n k to xs whole here in
    omega (arith, whole, room, length-append (take start xs ++ part n from xs) (drop rest xs), length-append (take start xs) (part n from xs), part_long n k from xs whole there, length-take-le start xs (omega (arith, room)), length-drop rest xs)

pub copied_page : (n count k from to : ℕ) (xs : List ℕ) → length xs ≡ k * n → from < k → to < k
    → pages_in n count k (copy_within xs (from * n) (from * n + n) (to * n))
    ≡ set (pages_in n count k xs) to (get_or (pages_in n count k xs) from [])
copied_page n count k from to xs whole there here =
    let start : ℕ = to * n in
    let same : copy_within xs (from * n) (from * n + n) start ≡ take start xs ++ (part n from xs ++ drop n (drop start xs)) =
    ap (λ (m : ℕ). (take start xs ++ part n from xs) ++ drop (start + m) xs) (omega arith)
    ∙ append_assoc (take start xs) (part n from xs) (drop (start + n) xs)
    ∙ ap (λ (ys : List ℕ). take start xs ++ (part n from xs ++ ys)) (sym (drop-drop n start xs)) in
    ap (pages_in n count k) same
    ∙ there_written n count k to xs (part n from xs) here whole (part_long n k from xs whole there)
    ∙ ap (set (pages_in n count k xs) to) (part_seen n count k from xs there)
