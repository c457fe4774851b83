-- Ports that are opened one after another.
use Rattle.std.proofs.Common.{◌≡◌, ℕ, suc, ◌<◌, List, [], ◌∷◌, ◌++◌, length, sym, subst, arith}
use Rattle.std.specs.Prelude.{◌-◌}
use Rattle.addr_text.specs.declared.address.Listen.{Listen}
use Rattle.outside.specs.declared.port.Opening.{Opening}
use Rattle.outside.specs.declared.port.Opening.TheVariants as opening
use Rattle.drive.specs.Done.{LaneTold}
use Rattle.glb.specs.Serve.{AreOpened, all_ready, then_failed}
use Rattle.glb.specs.Starting.{HasOpened}

-- one lane was opened, and then others
then_opened : (listen : Listen) (rs : List Opening) (a c b d : List LaneTold) → length a ≡ 1 → AreOpened listen (opening.Ready ∷ []) a c → AreOpened listen rs b d → AreOpened listen (opening.Ready ∷ rs) (a ++ b) (c ++ d)
then_opened listen rs (x ∷ []) (y ∷ c) b d one h k = (h.0, subst (λ xs. AreOpened listen rs b (xs ++ d)) (sym h.1) k)
then_opened listen rs [] c b d one h k = absurd h
then_opened listen rs (x ∷ []) [] b d one h k = absurd h
then_opened listen rs (x ∷ z ∷ a) c b d one h k = absurd (cc)

-- the first lane was opened, and then n others or some of them
pub more_opened : (listen : Listen) (n : ℕ) (r : Opening) (a c b d : List LaneTold) → length a ≡ 1 → HasOpened listen 1 opening.Ready a c → HasOpened listen n r b d → HasOpened listen (suc n) r (a ++ b) (c ++ d)
more_opened listen n opening.Ready a c b d one h k = then_opened listen (all_ready n) a c b d one h k
more_opened listen n opening.Failed a c b d one h k = (suc k.0, omega (arith, k.1), then_opened listen (then_failed k.0) a c b d one h k.2)

-- the same of all of them
pub more_lanes : (listen : Listen) (n : ℕ) (r : Opening) (xs a b c d : List LaneTold) → xs ≡ a ++ b → length a ≡ 1 → 0 < n
    → HasOpened listen 1 opening.Ready a c → HasOpened listen (n - 1) r b d → HasOpened listen n r xs (c ++ d)
more_lanes listen n r xs a b c d is one some h k =
    let count : n ≡ suc (n - 1) = omega (arith, some) in
    rw is (subst (λ m. HasOpened listen m r (a ++ b) (c ++ d)) (sym count) (more_opened listen (n - 1) r a c b d one h k))
