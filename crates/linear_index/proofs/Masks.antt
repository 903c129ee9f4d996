-- The last bits of hashes: what a bucket more changes.
use Rattle.std.proofs.Common.{◌≡◌, ◌≢◌, ◌⊎◌, inl, inr, ℕ, zero, suc, ◌+◌, ◌-◌, ◌*◌, ◌/◌, ◌%◌, ◌^◌, ◌<◌, ◌≤◌, ltb, sym, ap, subst, ◌∙◌, arith}
use Rattle.std.specs.Prelude.{bit_and}
use Rattle.std.proofs.lemmas.Bool.{cases_lt, cond-true, cond-false, lt-ltb, le-ltb}
use Rattle.std.proofs.lemmas.Nat.{and_mask, mod-pow-add, mod_below}
use Rattle.std.proofs.Math.Nat.{mod-eq_of_lt}
use Rattle.linear_index.specs.Hashes.{bucket_of, mask_for}
use Rattle.linear_index.specs.Buckets.{IsMask}

-- a hash whose bucket by the mask is there
bucket_low : (mask n h : ℕ) → bit_and h mask < n → bucket_of mask n h ≡ bit_and h mask
unfolding bucket_of
bucket_low mask n h low = cond-true (ltb (bit_and h mask) n) _ _ (lt-ltb _ _ low)

-- a hash whose bucket by the mask isn't there yet
bucket_high : (mask n h : ℕ) → n ≤ bit_and h mask → bucket_of mask n h ≡ bit_and h (mask / 2)
unfolding bucket_of
bucket_high mask n h high = cond-false (ltb (bit_and h mask) n) _ _ (le-ltb _ _ high)

by_power : (mask bits h : ℕ) → mask + 1 ≡ 2 ^ bits → bit_and h mask ≡ h % 2 ^ bits
by_power mask bits h power = let e : mask ≡ 2 ^ bits - 1 = omega arith in ap (bit_and h) e ∙ and_mask h bits

-- a number that isn't above the mask is its own last bits
own_bits : (mask n bits : ℕ) → mask + 1 ≡ 2 ^ bits → n ≤ mask → bit_and n mask ≡ n
own_bits mask n bits power le = by_power mask bits n power ∙ mod-eq_of_lt (omega arith)

-- a power of two isn't zero
positive : (bits : ℕ) → 0 < 2 ^ bits
positive zero = omega arith
positive (suc bits) = let h : 0 < 2 ^ bits = positive bits in omega arith

-- the bits by a mask, and by the mask with one bit less
record AreBits (mask h half : ℕ) : Type 0 where
  whole : mask + 1 ≡ 2 * half
  low : bit_and h (mask / 2) < half
  high : (bit_and h mask ≡ bit_and h (mask / 2)) ⊎ (bit_and h mask ≡ half + bit_and h (mask / 2))

one_or_none : (w b half r : ℕ) → b < 2 → w ≡ b * half + r → (w ≡ r) ⊎ (w ≡ half + r)
one_or_none w zero half r less e = inl (omega arith)
one_or_none w (suc zero) half r less e = inr (omega arith)
one_or_none w (suc (suc b)) half r less e = absurd (omega arith)

bits_of : (mask k h : ℕ) → mask + 1 ≡ 2 ^ (suc k) → AreBits mask h (2 ^ k)
bits_of mask k h power =
    let half : mask / 2 + 1 ≡ 2 ^ k = omega arith in
    let low : bit_and h (mask / 2) ≡ h % 2 ^ k = by_power (mask / 2) k h half in
    let all : bit_and h mask ≡ h % 2 ^ (suc k) = by_power mask (suc k) h power in
    let parts : h % 2 ^ (1 + k) ≡ (h / 2 ^ k % 2 ^ 1) * 2 ^ k + h % 2 ^ k = mod-pow-add h 1 k in
    let same : 1 + k ≡ suc k = omega arith in
    let sum : bit_and h mask ≡ (h / 2 ^ k % 2 ^ 1) * 2 ^ k + bit_and h (mask / 2) = all ∙ ap (λ (n : ℕ). h % 2 ^ n) (sym same) ∙ parts ∙ ap (λ (r : ℕ). (h / 2 ^ k % 2 ^ 1) * 2 ^ k + r) (sym low) in
    record {
      whole = omega arith;
      low = omega (arith, mod_below h (2 ^ k) (positive k));
      high = one_or_none (bit_and h mask) (h / 2 ^ k % 2 ^ 1) (2 ^ k) (bit_and h (mask / 2)) (mod_below (h / 2 ^ k) 2 (omega arith)) sum;
    }

-- the bits of a mask that has one more than none
bits_by : (mask n h : ℕ) → IsMask mask n → 0 < n → n ≤ mask → (half : ℕ) × AreBits mask h half
bits_by mask n h m some le = by_bits m.bits m.power where
  by_bits : (bits : ℕ) → mask + 1 ≡ 2 ^ bits → (half : ℕ) × AreBits mask h half
  by_bits zero power = absurd (omega arith)
  by_bits (suc k) power = (2 ^ k, bits_of mask k h power)

-- every hash has one of the buckets
pub bucket_below : (mask n h : ℕ) → IsMask mask n → 0 < n → bucket_of mask n h < n
bucket_below mask n h m some = elim (cases_lt (bit_and h mask) n) [
  | inl low ↦ subst (λ (b : ℕ). b < n) (sym (bucket_low mask n h low)) low
  | inr high ↦ elim (cases_lt mask n) [
    | inl full ↦ absurd (omega (arith, by_power mask m.bits h m.power, m.power, mod_below h (2 ^ m.bits) (positive m.bits)))
    | inr more ↦ (let b = bits_by mask n h m some more in subst (λ (k : ℕ). k < n) (sym (bucket_high mask n h high)) (omega (arith, b.1.low, b.1.whole, m.least)))
  ]
]

-- what becomes of a hash by a bucket more: it goes to that from the one that is divided, or stays
pub record IsMoved (mask n new old h : ℕ) : Type 0 where
  pub from_old : bit_and h new ≡ n → bucket_of mask n h ≡ old
  pub to_new : bit_and h new ≡ n → bucket_of new (n + 1) h ≡ n
  pub stays : bit_and h new ≢ n → bucket_of new (n + 1) h ≡ bucket_of mask n h

-- a bucket more, where the mask is for it
moved_within : (mask n h : ℕ) → IsMask mask n → 0 < n → n ≤ mask → IsMoved mask n mask (bit_and n (mask / 2)) h
moved_within mask n h m some le =
    let b = bits_by mask n h m some le in
    let d = bits_by mask n n m some le in
    let itself : bit_and n mask ≡ n = own_bits mask n m.bits m.power le in
    record {
      from_old = λ is. bucket_high mask n h (omega arith) ∙ elim b.1.high [
        | inl same ↦ absurd (omega (arith, b.1.low, b.1.whole, m.least))
        | inr more ↦ elim d.1.high [
          | inl same ↦ absurd (omega (arith, d.1.low, d.1.whole, m.least))
          | inr other ↦ omega (arith, b.1.whole, d.1.whole)
        ]
      ];
      to_new = λ is. bucket_low mask (n + 1) h (omega arith) ∙ is;
      stays = λ not. elim (cases_lt (bit_and h mask) n) [
        | inl low ↦ bucket_low mask (n + 1) h (omega arith) ∙ sym (bucket_low mask n h low)
        | inr high ↦ bucket_high mask (n + 1) h (omega arith) ∙ sym (bucket_high mask n h high)
      ];
    }

-- where there are as many buckets as the mask tells apart, one bit more changes none
grown : (mask h bits : ℕ) → mask + 1 ≡ 2 ^ bits → bucket_of (2 * mask + 1) (mask + 1) h ≡ bucket_of mask (mask + 1) h
grown mask h bits power =
    let half : (2 * mask + 1) / 2 ≡ mask = omega arith in
    let b : AreBits (2 * mask + 1) h (2 ^ bits) = bits_of (2 * mask + 1) bits h (omega arith) in
    let within : bit_and h mask < mask + 1 = omega (arith, ap (bit_and h) half, b.low) in
    elim (cases_lt (bit_and h (2 * mask + 1)) (mask + 1)) [
      | inl low ↦ bucket_low (2 * mask + 1) (mask + 1) h low ∙ elim b.high [
        | inl same ↦ same ∙ ap (bit_and h) half
        | inr more ↦ absurd (omega arith)
      ] ∙ sym (bucket_low mask (mask + 1) h within)
      | inr high ↦ bucket_high (2 * mask + 1) (mask + 1) h high ∙ ap (bit_and h) half ∙ sym (bucket_low mask (mask + 1) h within)
    ]

doubled : (mask n : ℕ) → IsMask mask n → n ≡ mask + 1 → IsMask (2 * mask + 1) n
doubled mask n m full = record {
  bits = suc m.bits;
  power = omega (arith, m.power);
  least = omega arith;
  most = omega arith;
}

-- what a bucket more changes
pub moved : (mask n h : ℕ) → IsMask mask n → 0 < n → IsMoved mask n (mask_for mask n) (bit_and n (mask_for mask n / 2)) h
moved mask n h m some = elim (cases_lt mask n) [
  | inl more ↦
      let full : n ≡ mask + 1 = omega (arith, m.most) in
      let new : mask_for mask n ≡ 2 * mask + 1 = cond-true (ltb mask n) _ _ (lt-ltb _ _ more) in
      let w : IsMoved (2 * mask + 1) n (2 * mask + 1) (bit_and n ((2 * mask + 1) / 2)) h = moved_within (2 * mask + 1) n h (doubled mask n m full) some (omega arith) in
      let same : bucket_of (2 * mask + 1) n h ≡ bucket_of mask n h = ap (λ (k : ℕ). bucket_of (2 * mask + 1) k h) full ∙ grown mask h m.bits m.power ∙ ap (λ (k : ℕ). bucket_of mask k h) (sym full) in
      subst (λ (k : ℕ). IsMoved mask n k (bit_and n (k / 2)) h) (sym new) (record {
        from_old = λ is. sym same ∙ w.from_old is;
        to_new = w.to_new;
        stays = λ not. w.stays not ∙ same;
      })
  | inr le ↦
      let new : mask_for mask n ≡ mask = cond-false (ltb mask n) _ _ (le-ltb _ _ le) in
      subst (λ (k : ℕ). IsMoved mask n k (bit_and n (k / 2)) h) (sym new) (moved_within mask n h m some le)
]

-- the mask for a bucket more is one
pub mask_more : (mask n : ℕ) → IsMask mask n → IsMask (mask_for mask n) (n + 1)
mask_more mask n m = elim (cases_lt mask n) [
  | inl more ↦
      let full : n ≡ mask + 1 = omega (arith, m.most) in
      let new : mask_for mask n ≡ 2 * mask + 1 = cond-true (ltb mask n) _ _ (lt-ltb _ _ more) in
      subst (λ (k : ℕ). IsMask k (n + 1)) (sym new) (record { bits = suc m.bits; power = omega (arith, m.power); least = omega arith; most = omega arith })
  | inr le ↦
      let new : mask_for mask n ≡ mask = cond-false (ltb mask n) _ _ (le-ltb _ _ le) in
      subst (λ (k : ℕ). IsMask k (n + 1)) (sym new) (record { bits = m.bits; power = m.power; least = omega (arith, m.least); most = omega arith })
]

-- the bucket that is divided is there
pub divided_below : (mask n : ℕ) → IsMask mask n → 0 < n → bit_and n (mask_for mask n / 2) < n
divided_below mask n m some =
    let w = mask_more mask n m in
    let own : bit_and n (mask_for mask n) ≡ n = own_bits (mask_for mask n) n w.bits w.power (omega (arith, w.most)) in
    subst (λ (b : ℕ). b < n) ((moved mask n n m some).from_old own) (bucket_below mask n n m some)
