-- What the laws of runs need to know of keys: whether two are the same can be decided, and the test says so. Assumes nothing.
use mathlib.Core.Path.{◌≡◌}
use mathlib.Core.Bool.{true, false}
use native.Mathlib.Decide.{ℕ_discrete}
use borrow.Author.Tests.{eq-eqb, ne_eqb}
use Rattle.format.specs.File.{Key, same_key}

module _ (k k' : Key) where
  pub same_key_lem : k ≡ k' → same_key k k' ≡ true
  same_key_lem same = eq-eqb k k' same

  pub other_key : (k ≡ k' → ⊥) → same_key k k' ≡ false
  other_key other = ne_eqb k k' other

  pub key_or_not : Dec (k ≡ k')
  key_or_not = ℕ_discrete k k'
