-- Buckets, as a key is entered, goes, or a bucket is divided.
use Rattle.std.proofs.Common.{◌≡◌, ◌≢◌, inl, inr, ℕ, zero, suc, ◌+◌, ◌/◌, ◌<◌, not, cond, eqb, List, [], ◌∷◌, ◌++◌, length, set, Option, Some, None, refl, sym, ap, subst, ◌∙◌, arith, length-set}
use Rattle.std.specs.Prelude.{bit_and, IfNone, IfSome, IsSome}
use Rattle.std.specs.Ordering.{nat_cmp}
use Rattle.std.specs.FinMap.{FinMap}
use Rattle.std.specs.FinMap as map
use Rattle.std.proofs.lemmas.Bool.{cases_eq, cond-true, cond-false, eq-eqb, ne_eqb, eqb-true}
use Rattle.std.proofs.lemmas.List.{get_or-set_same, get_or-set_other, get_or_append_left, length_push}
use Rattle.linear_index.specs.declared.cell.Cell.{Cell}
use Rattle.linear_index.specs.declared.cell.Link.{Link}
use Rattle.linear_index.specs.declared.cell.Link.TheVariants.{Free}
use Rattle.linear_index.specs.Hashes.{bucket_of, hash_of, mask_for}
use Rattle.linear_index.specs.Chains.{cell_at, Ends, IsIn, IsPart, KeepsOthers, key_at, key_by, key_in, link_to, SameKeys}
use Rattle.linear_index.specs.Buckets.{AreIn, bucket_at, bucket_by, head_of, IsBucket, IsHashed, IsMask, is_for}
use Rattle.linear_index.proofs.Chaining.{below, in_some, IsFront, kept, none_in, put_first, SameChain}
use Rattle.linear_index.proofs.Masks.{bucket_below, divided_below, IsMoved, mask_more, moved}
use Rattle.linear_index.proofs.Parts.{at_other, at_same, IsLed, is_other, keyed_by, led, not_this}
use Rattle.linear_index.proofs.Placed.{IsMapOf, once_less, once_more}

-- ---- whatever changes

-- a bucket is that of a key
record IsKeyOf (mask n : ℕ) (o : Option ℕ) (bucket : ℕ) : Type 0 where
  key : ℕ
  is : o ≡ Some key
  hashed : bucket_of mask n (hash_of key) ≡ bucket

key_of : (mask n : ℕ) (o : Option ℕ) (bucket : ℕ) → bucket_by mask n o ≡ Some bucket → IsKeyOf mask n o bucket
key_of mask n None bucket e = absurd (cc e)
key_of mask n (Some key) bucket e = record { key = key; is = refl; hashed = cc }

one : (a b : ℕ) → Some a ≡ Some b → a ≡ b
one a b e = cc

-- the places of a bucket keep their cells, and no place comes to it
bucket_kept : (old new : List Cell) (mask n : ℕ) (first : Option ℕ) (bucket : ℕ) → IsBucket old mask n first bucket → ((q : ℕ) → IsIn old first q → cell_at new q ≡ cell_at old q) → ((q : ℕ) → bucket_at mask n new q ≡ Some bucket → bucket_at mask n old q ≡ Some bucket) → IsBucket new mask n first bucket
bucket_kept old new mask n first bucket b same was =
    let k : SameChain old new first = kept old new first b.ends same in
    record {
      ends = k.ends;
      places = λ q. (
        (λ i. ap (λ (c : Cell). bucket_by mask n (key_in c)) (same q (k.back q i)) ∙ (b.places q).0 (k.back q i)),
        (λ e. k.on q ((b.places q).1 (was q e))),
      );
    }

-- cells that say the same
pub covered : (heads : List (Option ℕ)) (old new : List Cell) (mask : ℕ) → IsHashed heads old mask → ((p : ℕ) → cell_at new p ≡ cell_at old p) → IsHashed heads new mask
covered heads old new mask h same =
    let keys : (p : ℕ) → key_at new p ≡ key_at old p = λ p. ap key_in (same p) in
    record {
      masked = h.masked;
      some = λ p key e. h.some p key (sym (keys p) ∙ e);
      once = λ p q key e f. h.once p q key (sym (keys p) ∙ e) (sym (keys q) ∙ f);
      chains = λ bucket less. bucket_kept old new mask (length heads) (head_of heads bucket) bucket (h.chains bucket less) (λ q i. same q) (λ q e. sym (ap (bucket_by mask (length heads)) (keys q)) ∙ e);
    }

head_same : (heads : List (Option ℕ)) (b : ℕ) (o : Option ℕ) (c : ℕ) → b < length heads → c ≡ b → head_of (set heads b o) c ≡ o
head_same heads b o c less e = ap (head_of (set heads b o)) e ∙ get_or-set_same heads b o None less

head_other : (heads : List (Option ℕ)) (b : ℕ) (o : Option ℕ) (c : ℕ) → c ≢ b → head_of (set heads b o) c ≡ head_of heads c
head_other heads b o c other = get_or-set_other heads b c o None other

-- ---- a key is entered

pub key_put : (old : List Cell) (place : ℕ) (x : Cell) (o : Option ℕ) → place < length old → key_in x ≡ o → (p : ℕ) → key_at (set old place x) p ≡ cond (eqb p place) o (key_at old p)
key_put old place x o within is p = elim (cases_eq p place) [
  | inl same ↦ ap (key_at (set old place x)) same ∙ ap key_in (at_same old place x within) ∙ is ∙ sym (cond-true _ _ _ (eq-eqb p place same))
  | inr other ↦ ap key_in (at_other old place x p other) ∙ sym (cond-false _ _ _ (ne_eqb p place other))
]

pub put : (heads : List (Option ℕ)) (old : List Cell) (mask key place b : ℕ) (x : Cell) → IsHashed heads old mask → 0 < length heads → place < length old → key_at old place ≡ None → ((p : ℕ) → key_at old p ≢ Some key) → b ≡ bucket_of mask (length heads) (hash_of key) → x.key ≡ key → x.link ≡ link_to (head_of heads b) → IsHashed (set heads b (Some place)) (set old place x) mask
put heads old mask key place b x h some within none new_key hashed is link =
    let n : ℕ = length heads in
    let new : List Cell = set old place x in
    let first : Option ℕ = head_of heads b in
    let there : b < n = subst (λ (k : ℕ). k < n) (sym hashed) (bucket_below mask n (hash_of key) h.masked some) in
    let w : IsLed new place x.key first = led old place x first within link in
    let has : key_at new place ≡ Some key = w.has ∙ ap Some is in
    let far : (q : ℕ) → q ≢ place → cell_at new q ≡ cell_at old q = at_other old place x in
    let apart : (o : Option ℕ) (q : ℕ) → IsIn old o q → q ≢ place = λ o q i e. in_some old o q i (ap (key_at old) e ∙ none) in
    let bucket : bucket_at mask n new place ≡ Some b = ap (bucket_by mask n) has ∙ ap Some (sym hashed) in
    let was : (q : ℕ) (c : ℕ) → q ≢ place → bucket_at mask n new q ≡ Some c → bucket_at mask n old q ≡ Some c = λ q c other e. ap (λ (y : Cell). bucket_by mask n (key_in y)) (sym (far q other)) ∙ e in
    let of : IsBucket old mask n first b = h.chains b there in
    let k : SameChain old new first = kept old new first of.ends (λ q i. far q (apart first q i)) in
    let g : IsFront new place = put_first new place (λ e. (let never : Some key ≡ None = sym has ∙ e in cc)) (subst (Ends new) (sym w.leads) k.ends) (λ i. apart first place (k.back place (subst (λ (o : Option ℕ). IsIn new o place) w.leads i)) refl) in
    let here : IsBucket new mask n (Some place) b = record {
      ends = g.whole;
      places = λ q. (
        (λ i. elim (g.cases q i) [
          | inl same ↦ subst (λ (p : ℕ). bucket_at mask n new p ≡ Some b) same bucket
          | inr later ↦
              let o : IsIn old first q = k.back q (subst (λ (f : Option ℕ). IsIn new f q) w.leads later) in
              ap (λ (y : Cell). bucket_by mask n (key_in y)) (far q (apart first q o)) ∙ (of.places q).0 o
        ]),
        (λ e. elim (cases_eq q place) [
          | inl same ↦ subst (IsIn new (Some place)) (sym same) g.first
          | inr other ↦ g.behind q (subst (λ (f : Option ℕ). IsIn new f q) (sym w.leads) (k.on q ((of.places q).1 (was q b other e))))
        ]),
      );
    } in
    let all : AreIn n (set heads b (Some place)) new mask = record {
      masked = h.masked;
      some = λ p x e. some;
      once = once_more old new key place h.once new_key (key_put old place x (Some key) within (sym (ap key_in (at_same old place x within)) ∙ has));
      chains = λ c less. elim (cases_eq c b) [
        | inl same ↦ subst (λ (o : Option ℕ). IsBucket new mask n o c) (sym (head_same heads b (Some place) c there same)) (subst (IsBucket new mask n (Some place)) (sym same) here)
        | inr other ↦ subst (λ (o : Option ℕ). IsBucket new mask n o c) (sym (head_other heads b (Some place) c other)) (bucket_kept old new mask n (head_of heads c) c (h.chains c less) (λ q i. far q (apart (head_of heads c) q i)) (λ q e. elim (cases_eq q place) [
          | inl same ↦ absurd (other (one c b (sym e ∙ ap (bucket_at mask n new) same ∙ bucket)))
          | inr differs ↦ was q c differs e
        ]))
      ];
    } in
    subst (λ (k : ℕ). AreIn k (set heads b (Some place)) new mask) (sym (length-set heads b (Some place))) all

-- ---- a key goes

pub took : (heads : List (Option ℕ)) (old mid : List Cell) (mask key place b f : ℕ) (result : Option ℕ) (x : Cell) → IsHashed heads old mask → key_at old place ≡ Some key → b ≡ bucket_of mask (length heads) (hash_of key) → head_of heads b ≡ Some f → IsPart old mid (Some f) result (λ q. not (eqb q place)) → KeepsOthers old mid (Some f) → SameKeys old mid → x.link ≡ Free → IsHashed (set heads b result) (set mid place x) mask
took heads old mid mask key place b f result x h at hashed head part others keys link =
    let n : ℕ = length heads in
    let new : List Cell = set mid place x in
    let some : 0 < n = h.some place key at in
    let there : b < n = subst (λ (k : ℕ). k < n) (sym hashed) (bucket_below mask n (hash_of key) h.masked some) in
    let within : place < length mid = below mid place (λ e. (let never : Some key ≡ None = sym (keys place ∙ at) ∙ e in cc)) in
    let none : key_in x ≡ None = ap (λ (l : Link). key_by l x.key) link in
    let gone : key_at new place ≡ None = ap key_in (at_same mid place x within) ∙ none in
    let bucket : bucket_at mask n old place ≡ Some b = ap (bucket_by mask n) at ∙ ap Some (sym hashed) in
    let far : (q : ℕ) → q ≢ place → cell_at new q ≡ cell_at mid q = at_other mid place x in
    let kept_key : (q : ℕ) → q ≢ place → key_at new q ≡ key_at old q = λ q other. ap key_in (far q other) ∙ keys q in
    let other_by : (q c : ℕ) → bucket_at mask n new q ≡ Some c → q ≢ place = λ q c e same. (let never : None ≡ Some c = ap (bucket_by mask n) (sym gone) ∙ ap (bucket_at mask n new) (sym same) ∙ e in absurd (cc)) in
    let was : (q c : ℕ) → bucket_at mask n new q ≡ Some c → bucket_at mask n old q ≡ Some c = λ q c e. ap (bucket_by mask n) (sym (kept_key q (other_by q c e))) ∙ e in
    let of : IsBucket old mask n (Some f) b = subst (λ (o : Option ℕ). IsBucket old mask n o b) head (h.chains b there) in
    let apart : (q : ℕ) → IsIn mid result q → q ≢ place = λ q i. is_other q place ((part.places q).0 i).1 in
    let k : SameChain mid new result = kept mid new result part.ends (λ q i. far q (apart q i)) in
    let here : IsBucket new mask n result b = record {
      ends = k.ends;
      places = λ q. (
        (λ i. (let m : IsIn mid result q = k.back q i in ap (bucket_by mask n) (kept_key q (apart q m)) ∙ (of.places q).0 ((part.places q).0 m).0)),
        (λ e. k.on q ((part.places q).1 ((of.places q).1 (was q b e), not_this q place (other_by q b e)))),
      );
    } in
    let all : AreIn n (set heads b result) new mask = record {
      masked = h.masked;
      some = λ p x e. some;
      once = once_less old new place h.once (λ p. key_put mid place x None within none p ∙ ap (cond (eqb p place) None) (keys p));
      chains = λ c less. elim (cases_eq c b) [
        | inl same ↦ subst (λ (o : Option ℕ). IsBucket new mask n o c) (sym (head_same heads b result c there same)) (subst (IsBucket new mask n result) (sym same) here)
        | inr other ↦
            let its : (q : ℕ) → IsIn old (head_of heads c) q → bucket_at mask n old q ≡ Some c = λ q i. ((h.chains c less).places q).0 i in
            subst (λ (o : Option ℕ). IsBucket new mask n o c) (sym (head_other heads b result c other)) (bucket_kept old new mask n (head_of heads c) c (h.chains c less) (λ q i.
            far q (λ same. other (one c b (sym (its q i) ∙ ap (bucket_at mask n old) same ∙ bucket)))
            ∙ others q (λ o. other (one c b (sym (its q i) ∙ (of.places q).0 o)))) (λ q e. was q c e))
      ];
    } in
    subst (λ (k : ℕ). AreIn k (set heads b result) new mask) (sym (length-set heads b result)) all

-- ---- a bucket more

pub first_bucket : (heads : List (Option ℕ)) (cells : List Cell) (mask : ℕ) → IsHashed heads cells mask → length heads ≡ 0 → IsHashed (heads ++ None ∷ []) cells mask
first_bucket heads cells mask h none =
    let bare : (p key : ℕ) → key_at cells p ≡ Some key → ⊥ = λ p key e. absurd (omega (arith, h.some p key e)) in
    let all : AreIn 1 (heads ++ None ∷ []) cells mask = record {
      masked = record { bits = h.masked.bits; power = h.masked.power; least = omega (arith, h.masked.least); most = omega arith };
      some = λ p key e. omega arith;
      once = λ p q key e f. absurd (bare p key e);
      chains = λ c less. subst (λ (o : Option ℕ). IsBucket cells mask 1 o c) (sym (none_at heads c none)) (record {
        ends = ([], refl);
        places = λ q. ((λ i. absurd (none_in cells q i)), (λ e. (let k = key_of mask 1 (key_at cells q) c e in absurd (bare q k.key k.is))));
      });
    } in
    subst (λ (k : ℕ). AreIn k (heads ++ None ∷ []) cells mask) (omega (arith, length_push heads None)) all where
      none_at : (hs : List (Option ℕ)) (c : ℕ) → length hs ≡ 0 → head_of (hs ++ None ∷ []) c ≡ None
      none_at [] zero e = refl
      none_at [] (suc c) e = refl
      none_at (x ∷ hs) c e = absurd (omega arith)

-- n buckets become one more, as that at b is divided by the mask for so many
module _ (heads : List (Option ℕ)) (old new : List Cell) (mask n more b : ℕ) (first stay go : Option ℕ)
    (n_is : length heads ≡ n) (more_is : more ≡ mask_for mask n) (b_is : b ≡ bit_and n (more / 2)) (first_is : first ≡ head_of heads b)
    (h : AreIn n heads old mask) (some : 0 < n)
    (stays : IsPart old new first stay (λ q. not (is_for old more n q)))
    (goes : IsPart old new first go (is_for old more n))
    (others : KeepsOthers old new first) (keys : SameKeys old new) where
  b_by : bit_and n (mask_for mask n / 2) ≡ b
  b_by = ap (λ (m : ℕ). bit_and n (m / 2)) (sym more_is) ∙ sym b_is

  there : b < n
  there = subst (λ (k : ℕ). k < n) b_by (divided_below mask n h.masked some)

  move : (key : ℕ) → IsMoved mask n more b (hash_of key)
  move key = subst (λ (m : ℕ). IsMoved mask n m b (hash_of key)) (sym more_is) (subst (λ (k : ℕ). IsMoved mask n (mask_for mask n) k (hash_of key)) b_by (moved mask n (hash_of key) h.masked some))

  divided : IsBucket old mask n first b
  divided = subst (λ (o : Option ℕ). IsBucket old mask n o b) (sym first_is) (h.chains b there)

  -- the bits that were looked at are those of the key
  bits : (q key : ℕ) → key_at old q ≡ Some key → bit_and (hash_of (cell_at old q).key) more ≡ bit_and (hash_of key) more
  bits q key e = ap (λ (k : ℕ). bit_and (hash_of k) more) (one (cell_at old q).key key (sym (keyed_by (cell_at old q).link (cell_at old q).key (λ none. (let never : Some key ≡ None = sym e ∙ none in cc))) ∙ e))

  bucket_new : (q key : ℕ) → key_at old q ≡ Some key → bucket_at more (n + 1) new q ≡ Some (bucket_of more (n + 1) (hash_of key))
  bucket_new q key e = ap (bucket_by more (n + 1)) (keys q ∙ e)

  bucket_old : (q key : ℕ) → key_at old q ≡ Some key → bucket_at mask n old q ≡ Some (bucket_of mask n (hash_of key))
  bucket_old q key e = ap (bucket_by mask n) e

  from_new : (q c : ℕ) → bucket_at more (n + 1) new q ≡ Some c → IsKeyOf more (n + 1) (key_at old q) c
  from_new q c e = key_of more (n + 1) (key_at old q) c (sym (ap (bucket_by more (n + 1)) (keys q)) ∙ e)

  from_old : (q c : ℕ) → bucket_at mask n old q ≡ Some c → IsKeyOf mask n (key_at old q) c
  from_old q c e = key_of mask n (key_at old q) c e

  new_bucket : IsBucket new more (n + 1) go n
  new_bucket = record {
    ends = goes.ends;
    places = λ q. (
      (λ i.
          (let of = (goes.places q).0 i in
          let k = from_old q b ((divided.places q).0 of.0) in
          bucket_new q k.key k.is ∙ ap Some ((move k.key).to_new (sym (bits q k.key k.is) ∙ eqb-true _ _ of.1)))),
      (λ e.
          (let k = from_new q n e in
          elim (cases_eq (bit_and (hash_of k.key) more) n) [
            | inl to ↦ (goes.places q).1 ((divided.places q).1 (bucket_old q k.key k.is ∙ ap Some ((move k.key).from_old to)), eq-eqb _ _ (bits q k.key k.is ∙ to))
            | inr out ↦ absurd (omega (arith, (move k.key).stays out, k.hashed, bucket_below mask n (hash_of k.key) h.masked some))
          ])),
    );
  }

  old_bucket : IsBucket new more (n + 1) stay b
  old_bucket = record {
    ends = stays.ends;
    places = λ q. (
      (λ i.
          (let of = (stays.places q).0 i in
          let k = from_old q b ((divided.places q).0 of.0) in
          bucket_new q k.key k.is ∙ ap Some ((move k.key).stays (λ to. is_other _ _ of.1 (bits q k.key k.is ∙ to)) ∙ k.hashed))),
      (λ e.
          (let k = from_new q b e in
          elim (cases_eq (bit_and (hash_of k.key) more) n) [
            | inl to ↦ absurd (omega (arith, (move k.key).to_new to, k.hashed, there))
            | inr out ↦ (stays.places q).1 ((divided.places q).1 (bucket_old q k.key k.is ∙ ap Some (sym ((move k.key).stays out) ∙ k.hashed)), not_this _ _ (λ to. out (sym (bits q k.key k.is) ∙ to)))
          ])),
    );
  }

  other_bucket : (c : ℕ) → c < n → c ≢ b → IsBucket new more (n + 1) (head_of heads c) c
  other_bucket c less other =
      let of : IsBucket old mask n (head_of heads c) c = h.chains c less in
      let s : SameChain old new (head_of heads c) = kept old new (head_of heads c) of.ends (λ q i. others q (λ o. other (one c b (sym ((of.places q).0 i) ∙ (divided.places q).0 o)))) in
      record {
        ends = s.ends;
        places = λ q. (
          (λ i.
              (let k = from_old q c ((of.places q).0 (s.back q i)) in
              bucket_new q k.key k.is ∙ ap Some ((move k.key).stays (λ to. other (sym k.hashed ∙ (move k.key).from_old to)) ∙ k.hashed))),
          (λ e.
              (let k = from_new q c e in
              elim (cases_eq (bit_and (hash_of k.key) more) n) [
                | inl to ↦ absurd (omega (arith, (move k.key).to_new to, k.hashed))
                | inr out ↦ s.on q ((of.places q).1 (bucket_old q k.key k.is ∙ ap Some (sym ((move k.key).stays out) ∙ k.hashed)))
              ])),
        );
      }

  pub one_more : IsHashed (set (set (heads ++ None ∷ []) b stay) n go) new more
  one_more =
      let wide : List (Option ℕ) = heads ++ None ∷ [] in
      let two : List (Option ℕ) = set wide b stay in
      let long : length wide ≡ n + 1 = length_push heads None ∙ ap (λ (k : ℕ). k + 1) n_is in
      let long_two : length two ≡ n + 1 = length-set wide b stay ∙ long in
      let all : AreIn (n + 1) (set two n go) new more = record {
        masked = subst (λ (m : ℕ). IsMask m (n + 1)) (sym more_is) (mask_more mask n h.masked);
        some = λ p key e. omega arith;
        once = λ p q key e f. h.once p q key (sym (keys p) ∙ e) (sym (keys q) ∙ f);
        chains = λ c less. elim (cases_eq c n) [
          | inl same ↦ subst (λ (o : Option ℕ). IsBucket new more (n + 1) o c) (sym (head_same two n go c (omega arith) same)) (subst (IsBucket new more (n + 1) go) (sym same) new_bucket)
          | inr before ↦ elim (cases_eq c b) [
            | inl same ↦ subst (λ (o : Option ℕ). IsBucket new more (n + 1) o c) (sym (head_other two n go c before ∙ head_same wide b stay c (omega (arith, there)) same)) (subst (IsBucket new more (n + 1) stay) (sym same) old_bucket)
            | inr other ↦
                let within : c < n = omega arith in
                subst (λ (o : Option ℕ). IsBucket new more (n + 1) o c) (sym (head_other two n go c before ∙ head_other wide b stay c other ∙ get_or_append_left heads (None ∷ []) None c (omega arith))) (other_bucket c within other)
          ]
        ];
      } in
      subst (λ (k : ℕ). AreIn k (set two n go) new more) (sym (length-set two n go ∙ long_two)) all

-- what is written as the head of a bucket
pub written : (heads : List (Option ℕ)) (cells : List Cell) (mask b : ℕ) (o other : Option ℕ) → other ≡ o → IsHashed (set heads b o) cells mask → IsHashed (set heads b other) cells mask
written heads cells mask b o other e h = subst (λ (p : Option ℕ). IsHashed (set heads b p) cells mask) (sym e) h

-- ---- a key is sought

-- a place is in the chain of its bucket
pub headed : (heads : List (Option ℕ)) (cells : List Cell) (mask place key b : ℕ) → IsHashed heads cells mask → key_at cells place ≡ Some key → b ≡ bucket_of mask (length heads) (hash_of key) → IsIn cells (head_of heads b) place
headed heads cells mask place key b h at hashed =
    let there : b < length heads = subst (λ (k : ℕ). k < length heads) (sym hashed) (bucket_below mask (length heads) (hash_of key) h.masked (h.some place key at)) in
    ((h.chains b there).places place).1 (ap (bucket_by mask (length heads)) at ∙ ap Some (sym hashed))

pub some_in : (cells : List Cell) (o : Option ℕ) (q : ℕ) → IsIn cells o q → IsSome o
some_in cells None q i = absurd (none_in cells q i)
some_in cells (Some p) q i = refl

pub found_is : (heads : List (Option ℕ)) (cells : List Cell) (mask key b : ℕ) (m : FinMap nat_cmp ℕ) (o : Option ℕ) → IsHashed heads cells mask → IsMapOf cells m → b ≡ bucket_of mask (length heads) (hash_of key) → IfSome o (λ p. IsIn cells (head_of heads b) p × ((cell_at cells p).key ≡ key)) → IfNone o ((p : ℕ) → IsIn cells (head_of heads b) p → (cell_at cells p).key ≢ key) → o ≡ map.get m key
found_is heads cells mask key b m (Some p) h is hashed found absent = sym (is.there key p (keyed_by (cell_at cells p).link (cell_at cells p).key (in_some cells (head_of heads b) p found.0) ∙ ap Some found.1))
found_is heads cells mask key b m None h is hashed found absent = by_place (map.get m key) refl where
  by_place : (x : Option ℕ) → map.get m key ≡ x → None ≡ map.get m key
  by_place None e = sym e
  by_place (Some p) e =
      let at : key_at cells p ≡ Some key = is.found key p e in
      let i : IsIn cells (head_of heads b) p = headed heads cells mask p key b h at hashed in
      absurd (absent p i (one (cell_at cells p).key key (sym (keyed_by (cell_at cells p).link (cell_at cells p).key (in_some cells (head_of heads b) p i)) ∙ at)))

-- where there is no bucket, nothing is found
pub none_found : (heads : List (Option ℕ)) (cells : List Cell) (mask key : ℕ) (m : FinMap nat_cmp ℕ) → IsHashed heads cells mask → IsMapOf cells m → length heads ≡ 0 → None ≡ map.get m key
none_found heads cells mask key m h is none = by_place (map.get m key) refl where
  by_place : (x : Option ℕ) → map.get m key ≡ x → None ≡ map.get m key
  by_place None e = sym e
  by_place (Some p) e = absurd (omega (arith, h.some p key (is.found key p e)))
