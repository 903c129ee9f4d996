-- Clauses on one arm of a result.
use Rattle.std.proofs.Common.{Result, Ok, Err}
use Rattle.std.specs.Prelude.{IfOk, OnErr, OnOk}

pub on_ok : {T E : Type 0} (P : Type 0) (r : Result T E) → P → OnOk r P
on_ok P (Ok x) p = p
on_ok P (Err e) p = tt

pub on_err : {T E : Type 0} (P : Type 0) (r : Result T E) → P → OnErr r P
on_err P (Ok x) p = tt
on_err P (Err e) p = p

pub if_ok : {T E : Type 0} (P Q : T → Type 0) (r : Result T E) → ((x : T) → P x → Q x) → IfOk r P → IfOk r Q
if_ok P Q (Ok x) f p = f x p
if_ok P Q (Err e) f p = tt

pub on_ok_then : {T E : Type 0} (P Q : Type 0) (r : Result T E) → (P → Q) → OnOk r P → OnOk r Q
on_ok_then P Q (Ok x) f p = f p
on_ok_then P Q (Err e) f p = tt

pub on_err_then : {T E : Type 0} (P Q : Type 0) (r : Result T E) → (P → Q) → OnErr r P → OnErr r Q
on_err_then P Q (Ok x) f p = tt
on_err_then P Q (Err e) f p = f p
