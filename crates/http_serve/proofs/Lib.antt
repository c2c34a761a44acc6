mod Asking
mod Finding
mod Subscriptions
