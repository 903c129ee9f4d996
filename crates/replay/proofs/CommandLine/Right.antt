-- Words that ask for something: their options, and the forms of the values of these.
use Rattle.std.proofs.Common.{◌≡◌, ◌==◌, ◌||◌, ◌&&◌, ◌≤◌, ◌^◌, ℕ, Bool, true, false, cond, List, [], ◌∷◌, Option, Some, None, nat_le, refl, ap, subst, ◌∙◌, arith, codes, option_map, option_and_then, eqb-true, leb-true}
use Rattle.std.specs.List.{list_all, list_any}
use Rattle.std.proofs.lemmas.Bool.{and_parts}
use Rattle.std.specs.Option.{option_map_or}
use Rattle.vm_ids.specs.declared.numbers.TheConstants.{PAGE}
use Rattle.actor_script.specs.Operands.{number_of}
use Rattle.replay.specs.declared.asked.Size.{Size}
use Rattle.replay.specs.Commanding.{CommandOption, Values, are_proper, size_behind, asked_for, frames_of, hyphened, if_fitting, if_frames, if_page, options_of, page_of, page_sizes, size_of, value_named, values_behind, values_of}
use Rattle.replay.proofs.CommandLine.Cutting.{ArePlain}
use Rattle.replay.proofs.CommandLine.Values.{AreOwn, proper_parts}

-- what an option that is there was made of

pub record Made {A : Type 0} (o : Option A) (P : A → Type 0) : Type 0 where
  pub value : A
  pub is : o ≡ Some value
  pub holds : P value

pub made_by_map : {A B : Type 0} (f : A → B) (o : Option A) (y : B) → option_map f o ≡ Some y → Made o (λ x. f x ≡ y)
made_by_map f None y e = absurd (cc)
made_by_map f (Some x) y e = record { value = x; is = refl; holds = cc }

pub made_by_then : {A B : Type 0} (f : A → Option B) (o : Option A) (y : B) → option_and_then f o ≡ Some y → Made o (λ x. f x ≡ Some y)
made_by_then f None y e = absurd (cc)
made_by_then f (Some x) y e = record { value = x; is = refl; holds = e }

pub made_by_test : {A : Type 0} (b : Bool) (x y : A) → cond b (Some x) None ≡ Some y → (b ≡ true) × (x ≡ y)
made_by_test true x y e = (refl, cc)
made_by_test false x y e = absurd (cc)

-- where words give values: the options that they are cut into, and what is so of these
pub record Right (known words : List (List ℕ)) (values : Values) : Type 0 where
  pub options : List CommandOption
  pub cut : options_of words ≡ Some options
  pub own : AreOwn known options
  pub plain : ArePlain options
  pub values_are : (λ name. value_named (hyphened name) options) ≡ values

pub right : (known words : List (List ℕ)) (values : Values) → values_behind known words ≡ Some values → Right known words values
right known words values e =
    let made = made_by_then (values_of known) (options_of words) values e in
    let test = made_by_test (are_proper known made.value) (λ name. value_named (hyphened name) made.value) values made.holds in
    let parts = proper_parts known made.value test.0 in
    record { options = made.value; cut = made.is; own = parts.0; plain = parts.1; values_are = test.1 }

-- where these values ask for something each has its form
pub record HasForms (frames page : Option (List ℕ)) (size : Size) : Type 0 where
  pub frames_are : option_and_then frames_of frames ≡ Some size.frames
  pub page_is : option_map_or page_of page (Some PAGE) ≡ Some size.page_bytes

forms : (frames page : Option (List ℕ)) (size : Size) → asked_for frames page ≡ Some size → HasForms frames page size
forms frames page size e =
    let f = made_by_then (λ (f : ℕ). option_and_then (if_fitting f) (option_map_or page_of page (Some PAGE))) (option_and_then frames_of frames) size e in
    let p = made_by_then (if_fitting f.value) (option_map_or page_of page (Some PAGE)) size f.holds in
    let same = (made_by_test _ _ size p.holds).1 in
    record { frames_are = f.is ∙ ap (λ (s : Size). Some s.frames) same; page_is = p.is ∙ ap (λ (s : Size). Some s.page_bytes) same }

-- words that ask for a size give values, which do
pub record Sized (known words : List (List ℕ)) (size : Size) : Type 0 where
  pub values : Values
  pub values_are : values_behind known words ≡ Some values
  pub forms : HasForms (values (codes "frames")) (values (codes "page")) size

pub sized : (known words : List (List ℕ)) (size : Size) → size_behind known words ≡ Some size → Sized known words size
sized known words size e =
    let made = made_by_then size_of (values_behind known words) size e in
    record { values = made.value; values_are = made.is; forms = forms _ _ size made.holds }

-- bounds

abbrev AreFew : ℕ → Type 0
AreFew n = (3 ≤ n) × (n ≤ 65536)

abbrev IsPageSize : ℕ → Type 0
IsPageSize n = (1 ≤ n) × (n ≤ 2 ^ 16)

among : (sizes : List ℕ) (n : ℕ) → list_any (λ size. size == n) sizes ≡ true → list_all (λ size. nat_le 1 size && nat_le size (2 ^ 16)) sizes ≡ true → IsPageSize n
among [] n e all = absurd (cc)
among (size ∷ sizes) n e all = by (size == n) refl e (and_parts _ _ all) (among sizes n)
  where
    by : (b : Bool) → (size == n) ≡ b → (b || list_any (λ size. size == n) sizes) ≡ true → ((nat_le 1 size && nat_le size (2 ^ 16)) ≡ true) × (list_all (λ size. nat_le 1 size && nat_le size (2 ^ 16)) sizes ≡ true)
        → (list_any (λ size. size == n) sizes ≡ true → list_all (λ size. nat_le 1 size && nat_le size (2 ^ 16)) sizes ≡ true → IsPageSize n) → IsPageSize n
    by true t e all rest =
        let within = and_parts _ _ all.0 in
        subst IsPageSize (eqb-true size n t) (leb-true 1 size within.0, leb-true size (2 ^ 16) within.1)
    by false t e all rest = rest e all.1

pub few_frames : (word : Option (List ℕ)) (frames : ℕ) → option_and_then frames_of word ≡ Some frames → AreFew frames
few_frames word frames e =
    let w = made_by_then frames_of word frames e in
    let n = made_by_then if_frames (number_of w.value) frames w.holds in
    let test = made_by_test (nat_le 3 n.value && nat_le n.value 65536) n.value frames n.holds in
    let both = and_parts _ _ test.0 in
    subst AreFew test.1 (leb-true 3 n.value both.0, leb-true n.value 65536 both.1)

pub small_page : (word : Option (List ℕ)) (bytes : ℕ) → option_map_or page_of word (Some PAGE) ≡ Some bytes → IsPageSize bytes
small_page None bytes e = let same : PAGE ≡ bytes = cc in subst IsPageSize same (omega arith, omega arith)
small_page (Some word) bytes e =
    let n = made_by_then if_page (number_of word) bytes e in
    let test = made_by_test (list_any (λ size. size == n.value) page_sizes) n.value bytes n.holds in
    subst IsPageSize test.1 (among page_sizes n.value test.0 refl)
