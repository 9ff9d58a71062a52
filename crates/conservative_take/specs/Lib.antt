pub mod AnyPolicies
