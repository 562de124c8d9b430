-- What stands before the identity, the identity, the nonce.
use Rattle.std.proofs.Common.{sym}
use Rattle.writing_redirects.proofs.Written.{octets_length, all_put}
use Rattle.writing_redirects.proofs.put_gateway.Goals as goal

pub returns : goal.returns
returns c =
    let g = c.args.gateway in (
      sym (octets_length g.identity_type g.identity.now g.nonce.now),
      all_put g.identity_type g.identity.now g.nonce.now c.args.out.now _ _ _ c.requires.nonce_in_bounds
          c.copy_octets.ensures c.copy_octets-2.ensures c.copy_octets-3.ensures,
    )
