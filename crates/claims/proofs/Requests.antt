-- What the requests of document 02 ask to be shown: specs/Requests.antt. Assumes nothing.
use Rattle.claims.specs.Requests.{L1, L2}
use Rattle.claims.proofs.HostClaims.{host_roll_is_batch, host_honest_accepted}
use Rattle.claims.proofs.Orders.{orders_as_written}
use Rattle.claims.proofs.Products.{transform_claims, plain_claims, same_bytes, root_claims, product_orders, some_product, some_rootless, no_root}
use Rattle.claims.proofs.SessionWithdrawals.{over_sessions}
use Rattle.claims.proofs.Withdrawals.{over_calls, never_told_34}

pub request_L1 : L1
request_L1 = record {
  over_sessions = over_sessions;
  over_calls = over_calls;
  never_told_34 = never_told_34;
  order = orders_as_written.withdraw;
  roll_is_batch = host_roll_is_batch;
  honest_accepted = host_honest_accepted;
}

pub request_L2 : L2
request_L2 = record {
  by_transform = transform_claims;
  plain = plain_claims;
  same_bytes = same_bytes;
  no_root = no_root;
  roots = root_claims;
  orders = product_orders;
  some = some_product;
  some_rootless = some_rootless;
}
