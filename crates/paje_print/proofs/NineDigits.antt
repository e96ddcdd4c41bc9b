-- The digits of a number below a second's nanoseconds.
use native.Mathlib.Omega.{arith}
use Rattle.std.proofs.Common.{◌≡◌, ◌≤◌, ◌<◌, ◌^◌, ℕ, codes, length, decimal, replicate, take}
use Rattle.std.proofs.lemmas.Fmt.{length-decimal-le}
use Rattle.std.proofs.lemmas.List.{take-replicate}

pub nine_digits : (n : ℕ) → n < 10 ^ 9 → length (decimal n) ≤ 9
nine_digits n below = length-decimal-le 9 n (omega arith) below (omega arith)

pub nine_zeros : (n : ℕ) → n ≤ 9 → take n (codes "000000000") ≡ replicate n 48
nine_zeros n few = take-replicate n 9 48 few
