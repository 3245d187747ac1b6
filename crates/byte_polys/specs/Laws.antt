-- The domain keeps the laws. Assumes nothing.
use Rattle.std.specs.Prelude.{◌≡◌, ℕ, true}
use Rattle.std.proofs.Common.{arith}
use Rattle.domains.specs.Meaning.{Laws}
use Rattle.polynomial_domains.proofs.DomainLaws.{polynomial_domain_laws}
use Rattle.byte_polys.specs.ByteField.{byte_polys, field, byte_digits}
use Rattle.byte_polys.specs.Listed.{listed}

-- all laws of a domain
pub lawful : (p : ℕ) (h : listed p ≡ true) → Laws (byte_polys p h)
unfolding byte_polys
lawful p h = polynomial_domain_laws (field p h) (byte_digits p h) 7 (omega arith)
