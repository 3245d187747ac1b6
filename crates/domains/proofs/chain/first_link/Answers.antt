use Rattle.domains.proofs.chain.first_link.Goals as goal

pub returns : goal.returns
returns g c =
    let laws = c.chain_laws.ensures in
    let constants = laws.constants _ _ _ c.requires c.subtract-zero.ensures.value c.subtract-zero.ensures.own c.normalize-one.ensures.parts c.normalize-one.ensures.own in
    laws.start _ _ _ _ _ c.requires constants c.divide_modulus-quotient.ensures.parts c.divide_modulus-quotient.ensures.own c.subtract.ensures.value c.subtract.ensures.own
