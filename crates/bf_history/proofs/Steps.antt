-- What holds behind the last step of a meaning, and what the limits leave of a history.
use Rattle.std.proofs.Common.{◌≡◌, Bool, true, false, cond, nat_lt, length, Result, Ok, Err, IfOk, refl}
use Rattle.bf_forest.specs.Trees.{entries_of}
use Rattle.bf_grammar.specs.declared.fault.Limits.{Limits}
use Rattle.bf_grammar.specs.Forms.{◌>>=◌}
use Rattle.bf_history.specs.declared.fault.ImportFault.{ImportFault}
use Rattle.bf_history.specs.Meanings.{History, within_limits}

pub last_step : {D Y : Type 0} (d : Result D ImportFault) (f : D → Y) (P : Y → Type 0) → ((w : D) → d ≡ Ok w → P (f w)) → IfOk (d >>= λ w. Ok (f w)) P
last_step (Ok w) f P h = h w refl
last_step (Err e) f P h = tt

err_ok : {X F : Type 0} (e : F) (x : X) → Err e ≡ Ok x → ⊥
err_ok e x h = cc

limited : {X F : Type 0} (one other : Bool) (e f : F) (x w : X) → cond one (Err e) (cond other (Err f) (Ok x)) ≡ Ok w → x ≡ w
limited true other e f x w h = absurd (err_ok e w h)
limited false true e f x w h = absurd (err_ok f w h)
limited false false e f x w h = cc

-- a history within the limits is itself
pub within_same : (limits : Limits) (history after : History) → within_limits limits history ≡ Ok after → history ≡ after
unfolding within_limits
within_same limits history after h =
    limited (nat_lt limits.entries (entries_of history.directories)) (nat_lt limits.commits (length history.names)) _ _ history after h
